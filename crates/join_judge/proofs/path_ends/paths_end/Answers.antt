-- `join_judge::path_ends::paths_end` meets its contract. Assumes nothing.
use native.Mathlib.Omega.{arith}
use Rattle.join_judge.proofs.PathWays.{reading_all, reading_more, reading_none, reading_out}
use Rattle.join_judge.proofs.path_ends.paths_end.Goals as goal

pub loop-i-init : goal.loop-i-init
loop-i-init c = search (reading_none, arith)

pub returns-in_err-at : goal.returns-in_err-at
returns-in_err-at c = let f = c.in_err-at.ensures in rw c.from_residual.ensures (search (reading_out, arith))

pub loop-i-preserved : goal.loop-i-preserved
loop-i-preserved c = let f = c.in_ok-at.ensures in search (reading_more, arith)

pub returns : goal.returns
returns c = search (reading_all, arith)
