use Rattle.table.proofs.Filling.{Gathering}
use Rattle.table.proofs.variables.row_variables.Given as goal

abbrev pub invariant-loop-x : goal.invariant-loop-x
invariant-loop-x l = Gathering l.pattern l.row l.mask l.x
