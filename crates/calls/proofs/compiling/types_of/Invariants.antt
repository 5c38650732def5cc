use Rattle.calls.proofs.CompileWays.{TypesBelow}
use Rattle.calls.proofs.compiling.types_of.Given as goal

abbrev pub invariant-loop-x : goal.invariant-loop-x
invariant-loop-x l = TypesBelow l.query l.types l.x
