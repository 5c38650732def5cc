-- The values of the variables one after another, as places. ks are the known words of a record.
use Rattle.std.specs.Prelude.{◌≡◌, List, false, ◌<◌, ℕ, length}
use Rattle.bits.specs.Sets.{bit}
use Rattle.matcher.specs.Records.{after_slot, after_slots, slot_view, views}
use Rattle.matcher.proofs.Places.{view_at}
use Rattle.meaning.specs.Basics.{eight}
use Rattle.meaning.specs.Typing.{Found, absent}
use Rattle.typecode.specs.Codes.{code_of}
use Rattle.records.specs.Ends.{TypesAre}
use Rattle.records.specs.Places.{Variables, views_of}

-- r is the place of a variable of type t whose value is to stand at place
pub record Slot (t place r : ℕ) : Type 0 where
  pub is : (ks : List ℕ) → length ks < 65535 → (f : Found) → t ≡ code_of f → view_at ks r ≡ slot_view f (view_at ks place)
  pub small : r < 65536

-- r is the place after it
pub record SlotEnd (ks : List ℕ) (t place r : ℕ) : Type 0 where
  pub is : (f : Found) → t ≡ code_of f → view_at ks r ≡ after_slot f (view_at ks place)
  pub small : r < 65536

-- the places at are those of the variables whose values stand from start on, and end is the place after them
pub record Slotted (ks types : List ℕ) (start : ℕ) (at : List ℕ) (end : ℕ) : Type 0 where
  pub is : (f : ℕ → Found) → TypesAre types f → (mask : ℕ) → Variables mask → ((x : ℕ) → bit mask x ≡ false → f x ≡ absent) → views_of ks at mask ≡ views eight f (view_at ks start)
  pub ends : (f : ℕ → Found) → TypesAre types f → view_at ks end ≡ after_slots eight f (view_at ks start)
  pub small : end < 65536
