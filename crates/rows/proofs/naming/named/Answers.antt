use Rattle.rows.proofs.Places.{counting_none, counting_more, counting_all}
use native.Mathlib.Omega.{arith}
use Rattle.rows.proofs.naming.named.Goals as goal

pub loop-j-init : goal.loop-j-init
loop-j-init c = search (counting_none, arith)

pub loop-j-preserved : goal.loop-j-preserved
loop-j-preserved c = search (counting_more, arith)

pub returns : goal.returns
returns c = search (counting_all, arith)
