use Rattle.table.proofs.Plain.{Seeking}
use Rattle.table.proofs.typing.clashes.Given as goal

abbrev pub invariant-loop-x : goal.invariant-loop-x
invariant-loop-x l = Seeking l.pattern l.row l.x
