use Rattle.query.proofs.TypeWays.{Coded}
use Rattle.query.proofs.typing.type_code.Given as goal

abbrev pub invariant-loop-i : goal.invariant-loop-i
invariant-loop-i l = Coded l.query l.x l.i l.code
