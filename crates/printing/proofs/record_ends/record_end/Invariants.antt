use Rattle.printing.proofs.Ends.{Variables}
use Rattle.printing.proofs.record_ends.record_end.Given as goal

abbrev pub invariant-loop-variable : goal.invariant-loop-variable
invariant-loop-variable l = Variables l.types l.words l.at l.variable l.end
