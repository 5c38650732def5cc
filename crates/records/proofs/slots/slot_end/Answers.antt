-- `records::slots::slot_end` meets its contract: a variable that is not used takes no words. Assumes nothing.
use native.Mathlib.Omega.{arith}
use Rattle.records.proofs.SlotPlaces.{end_absent, end_typed}
use Rattle.records.proofs.slots.slot_end.Goals as goal

pub returns-then-t-eq0 : goal.returns-then-t-eq0
returns-then-t-eq0 c = search (end_absent, arith)

pub returns : goal.returns
returns c = search (end_typed, arith)
