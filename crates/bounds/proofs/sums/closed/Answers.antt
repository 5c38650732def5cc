-- `bounds::sums::closed` meets its contract. Assumes nothing.
use Rattle.bounds.proofs.SumWays.{closed_tail, closing_all, closing_more, closing_none}
use native.Mathlib.Omega.{arith}
use Rattle.bounds.proofs.sums.closed.Goals as goal

pub returns-then-has : goal.returns-then-has
returns-then-has c = search (closed_tail, arith)

pub loop-k-init : goal.loop-k-init
loop-k-init c = search (closing_none, arith)

pub loop-k-preserved : goal.loop-k-preserved
loop-k-preserved c = search (closing_more, arith)

pub returns : goal.returns
returns c = search (closing_all, arith)
