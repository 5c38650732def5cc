use Rattle.query.proofs.TypeWays.{Agreed}
use Rattle.query.proofs.typing.untyped.Given as goal

abbrev pub invariant-loop-x : goal.invariant-loop-x
invariant-loop-x l = Agreed l.query l.x
