use Rattle.query.proofs.AreaWays.{Writing}
use Rattle.query.proofs.type_area.write_types.Given as goal

abbrev pub invariant-loop-x : goal.invariant-loop-x
invariant-loop-x l = Writing l.query l.initial.types l.types l.x
