use Rattle.calls.proofs.CompileWays.{PlansBelow}
use Rattle.calls.proofs.compiling.compile_parts.Given as goal

abbrev pub invariant-loop-i : goal.invariant-loop-i
invariant-loop-i l = PlansBelow l.query l.graph l.plans l.n l.i
