use lib.ListN.{take}
use Rattle.join_judge.proofs.OwnWays.{Writing}
use Rattle.join_judge.proofs.own.write_own.Given as goal

abbrev pub invariant-loop-x : goal.invariant-loop-x
invariant-loop-x l = Writing l.plan l.words l.shape.types l.start (take l.initial.n l.initial.own) l.own l.n l.place l.x
