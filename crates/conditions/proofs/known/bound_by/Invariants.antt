use Rattle.conditions.proofs.KnownWords.{BindsBelow}
use lib.ListN.{take}
use Rattle.conditions.proofs.known.bound_by.Given as goal

abbrev pub invariant-loop-x : goal.invariant-loop-x
invariant-loop-x l = BindsBelow (take l.known l.rec) l.types l.places l.b l.x
