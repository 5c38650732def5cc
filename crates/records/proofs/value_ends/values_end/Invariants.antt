use lib.ListN.{take}
use Rattle.records.specs.Ends.{EndsOne}
use Rattle.records.proofs.Moves.{Made}
use Rattle.records.proofs.value_ends.values_end.Given as goal

abbrev pub invariant-loop-x : goal.invariant-loop-x
invariant-loop-x l = Made (EndsOne (take l.known l.rec) l.types l.a.at) l.b.at l.x
