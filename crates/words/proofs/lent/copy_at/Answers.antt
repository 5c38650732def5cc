-- `words::lent::copy_at` meets its contract. Assumes nothing.
use native.Mathlib.Omega.{arith}
use Rattle.words.proofs.Loops.{pasted_none, pasted_more, pasted_all}
use Rattle.words.proofs.lent.copy_at.Goals as goal

pub loop-i-init : goal.loop-i-init
loop-i-init c = search (pasted_none, arith)

pub loop-i-preserved : goal.loop-i-preserved
loop-i-preserved c = search (pasted_more, arith)

pub returns : goal.returns
returns c = search (pasted_all, arith)
