use Rattle.calls.proofs.CompileWays.{NamesBelow}
use Rattle.calls.proofs.compiling.names_of.Given as goal

abbrev pub invariant-loop-i : goal.invariant-loop-i
invariant-loop-i l = NamesBelow l.query l.names l.n l.i
