-- `join_judge::named::names_end` meets its contract. Assumes nothing.
use native.Mathlib.Omega.{arith}
use Rattle.join_judge.proofs.NameWays.{naming_all, naming_more, naming_none, naming_out}
use Rattle.join_judge.proofs.named.names_end.Goals as goal

pub loop-x-init : goal.loop-x-init
loop-x-init c = search (naming_none, arith)

pub returns-in_err-at : goal.returns-in_err-at
returns-in_err-at c = let f = c.in_err-at.ensures in rw c.from_residual.ensures (search (naming_out, arith))

pub loop-x-preserved : goal.loop-x-preserved
loop-x-preserved c = let f = c.in_ok-at.ensures in search (naming_more, arith)

pub returns : goal.returns
returns c = search (naming_all, arith)
