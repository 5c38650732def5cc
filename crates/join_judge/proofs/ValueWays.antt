-- Where values end: the ways through the code.
use mathlib.Core.Path.{◌∙◌, ◌≡◌, ap, refl, sym}
use mathlib.Core.List.{List, [], ◌∷◌}
use mathlib.Core.Option.{some}
use mathlib.Core.Bool.{Bool, false, true}
use Prim.Native.Nat.{◌≤◌, suc, zero, ℕ}
use native.Mathlib.Omega.{arith}
use lib.Dec.{ltb}
use lib.ListN.{drop, length, take}
use lib.Seq.{take-length}
use borrow.Author.Tests.{ltb-false, ltb-true}
use Rattle.join_judge.specs.Own.{ValuesEnd}
use Rattle.matcher.proofs.Places.{view_far, view_at}
use Rattle.matcher.specs.Records.{after_slots}
use Rattle.matcher.specs.Values.{skip}
use Rattle.meaning.proofs.Logic.{no_none, some_inj}
use Rattle.meaning.specs.Basics.{eight}
use Rattle.records.proofs.SlotPlaces.{end_absent, end_typed}
use Rattle.records.specs.Ends.{EndsAt}
use Rattle.records.specs.Slots.{SlotEnd, Slotted}

-- ------------------------------------------------------------------ one value
pub no_value : (words : List ℕ) (t place : ℕ) → length words ≤ 20000 → place ≤ length words → t ≡ 0 → SlotEnd words t place place
no_value words t place few l e = end_absent t place words (omega arith) e

pub some_value : (words : List ℕ) (t place r : ℕ) → (t ≡ 0 → ⊥) → EndsAt (take (length words) words) t place r → SlotEnd words t place r
some_value words t place r n h = end_typed t place words r n (rw (take-length words) at h)

pub view_here : (ks : List ℕ) (k : ℕ) → k ≤ length ks → view_at ks k ≡ some (drop k ks)
unfolding skip
view_here ks zero h = refl
view_here [] (suc k) h = absurd (omega arith)
view_here (w ∷ ks) (suc k) h = view_here ks k (omega arith)

-- a place that is known is one of the words
pub view_within : (ks : List ℕ) (k : ℕ) (a : List ℕ) → view_at ks k ≡ some a → (k ≤ length ks) × (a ≡ drop k ks)
view_within ks k a e = go (ltb (length ks) k) refl
  where
    go : (b : Bool) → ltb (length ks) k ≡ b → (k ≤ length ks) × (a ≡ drop k ks)
    go true t = no_none (sym (view_far ks k (ltb-true (length ks) k t)) ∙ e)
    go false t = let l : k ≤ length ks = ltb-false (length ks) k t in (l, some_inj (sym e ∙ view_here ks k l))

-- ------------------------------------------------------------------ all values
pub values_are : (words types at : List ℕ) (start r : ℕ) → start ≤ length words → Slotted (take (length words) words) types start at r → ValuesEnd words types start r
values_are words types at start r l h = record {
  is = λ f t. sym (ap (λ (w : List ℕ). view_at w r) (take-length words)) ∙ (h.ends f t ∙ ap (after_slots eight f) (ap (λ (w : List ℕ). view_at w start) (take-length words) ∙ view_here words start l));
}
