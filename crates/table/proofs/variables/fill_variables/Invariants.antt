use Rattle.table.proofs.Filling.{Tabled}
use Rattle.table.specs.Variables.{variables_at_lem}
use Rattle.table.proofs.variables.fill_variables.Given as goal

abbrev pub invariant-loop-i : goal.invariant-loop-i
invariant-loop-i l = Tabled (variables_at_lem l.pattern) l.rows l.initial.variables l.variables l.i
