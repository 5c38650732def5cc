-- `records::slots::slot` meets its contract: a variable that is not used, or has no type, has no place. Assumes nothing.
use native.Mathlib.Omega.{arith}
use Rattle.records.proofs.SlotPlaces.{slot_absent, slot_clash, slot_typed}
use Rattle.records.proofs.slots.slot.Goals as goal

pub returns-then-t-eq0 : goal.returns-then-t-eq0
returns-then-t-eq0 c = search (slot_absent, arith)

pub returns-then-t-eq7 : goal.returns-then-t-eq7
returns-then-t-eq7 c = search (slot_clash, arith)

pub returns : goal.returns
returns c = search (slot_typed, arith)
