use Rattle.table.proofs.Filling.{Tabled}
use Rattle.table.specs.Variables.{type_at}
use Rattle.table.proofs.variables.fill_types.Given as goal

abbrev pub invariant-loop-k : goal.invariant-loop-k
invariant-loop-k l = Tabled (type_at l.pattern) l.all l.initial.types l.types l.k
