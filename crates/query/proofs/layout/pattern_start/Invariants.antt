use Rattle.query.proofs.LayoutWays.{Adding}
use Rattle.query.proofs.layout.pattern_start.Given as goal

abbrev pub invariant-loop-k : goal.invariant-loop-k
invariant-loop-k l = Adding l.query l.n l.i l.from l.k
