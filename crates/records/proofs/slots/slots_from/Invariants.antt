use lib.ListN.{take}
use Rattle.records.proofs.SlotPlaces.{Slotting}
use Rattle.records.proofs.slots.slots_from.Given as goal

abbrev pub invariant-loop-x : goal.invariant-loop-x
invariant-loop-x l = Slotting (take l.known l.rec) l.types l.start l.a.at l.place l.x
