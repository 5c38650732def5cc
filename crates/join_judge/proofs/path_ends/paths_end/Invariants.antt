use Rattle.join_judge.proofs.PathWays.{Reading}
use Rattle.join_judge.proofs.path_ends.paths_end.Given as goal

abbrev pub invariant-loop-i : goal.invariant-loop-i
invariant-loop-i l = Reading l.words l.n l._i l.at
