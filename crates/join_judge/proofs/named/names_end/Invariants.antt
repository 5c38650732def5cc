use Rattle.join_judge.proofs.NameWays.{Naming}
use Rattle.join_judge.proofs.named.names_end.Given as goal

abbrev pub invariant-loop-x : goal.invariant-loop-x
invariant-loop-x l = Naming l.words l.shape l.from l.at l.x
