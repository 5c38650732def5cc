-- `records::slots::slots_from` meets its contract: the values of the variables below `x` are placed, and the others stand from `place` on. Assumes nothing.
use native.Mathlib.Omega.{arith}
use Rattle.records.proofs.SlotPlaces.{slotting_all, slotting_more, slotting_none}
use Rattle.records.proofs.slots.slots_from.Goals as goal

pub loop-x-init : goal.loop-x-init
loop-x-init c = search (slotting_none, arith)

pub loop-x-preserved : goal.loop-x-preserved
loop-x-preserved c = search (slotting_more, arith)

pub returns : goal.returns
returns c = search (slotting_all, arith)
