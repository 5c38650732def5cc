-- The loop over the values that stand one after another. Assumes nothing.
use mathlib.Core.Path.{◌∙◌, ◌≡◌, ap, refl, sym}
use mathlib.Core.List.{List, [], ◌∷◌}
use mathlib.Core.Option.{Option, none}
use mathlib.Core.Bool.{Bool, false, true}
use Prim.Native.Nat.{◌%◌, ◌+◌, ◌<◌, ◌≤◌, ℕ}
use native.Mathlib.Omega.{arith}
use lib.Dec.{eqb}
use lib.ListN.{get_or, length, length-set, set, take}
use lib.Seq.{get_or-set_other, get_or-set_same, length-take-le}
use borrow.Author.Tests.{eq-eqb, eqb-false, eqb-true, ne_eqb}
use Rattle.matcher.specs.Records.{after_slot, after_slots, slot_view, views}
use Rattle.matcher.specs.Values.{after_found, after_view}
use Rattle.matcher.proofs.Places.{view_far, view_at}
use Rattle.meaning.proofs.Eight.{from, from_end, from_next, from_one}
use Rattle.std.specs.Prelude.{if◌then◌else◌}
use Rattle.meaning.specs.Basics.{eight}
use Rattle.meaning.specs.Typing.{Found, absent, clash, typed}
use Rattle.typecode.specs.Codes.{code_of}
use Rattle.records.specs.Ends.{EndsAt, TypesAre}
use Rattle.records.specs.Places.{Unplaced}
use Rattle.records.specs.Slots.{Slot, SlotEnd, Slotted}
use Rattle.records.proofs.Ends.{after_untyped, no_digit}
use Rattle.records.proofs.Moves.{views_are}

-- ------------------------------------------------------------------ slot
module _ (t place : ℕ) where
  -- a value of no type has no place
  untyped : (t % 8 + 3) % 8 < 4 → Slot t place 65535
  unfolding slot_view code_of
  untyped d = record { is = λ ks k f e. view_far ks 65535 k ∙ go ks f e; small = omega arith }
    where
      go : (ks : List ℕ) (f : Found) → t ≡ code_of f → none ≡ slot_view f (view_at ks place)
      go ks absent e = refl
      go ks clash e = refl
      go ks (typed τ) e = absurd (no_digit t τ e d)

  pub slot_absent : t ≡ 0 → Slot t place 65535
  slot_absent z = untyped (omega arith)

  pub slot_clash : t ≡ 7 → Slot t place 65535
  slot_clash z = untyped (omega arith)

  pub slot_typed : place < 65536 → (t ≡ 0 → ⊥) → (t ≡ 7 → ⊥) → Slot t place place
  unfolding slot_view code_of
  slot_typed l n₀ n₇ = record { is = λ ks k f e. go ks f e; small = l }
    where
      go : (ks : List ℕ) (f : Found) → t ≡ code_of f → view_at ks place ≡ slot_view f (view_at ks place)
      go ks absent e = absurd (n₀ e)
      go ks clash e = absurd (n₇ e)
      go ks (typed τ) e = refl

  pub end_absent : (ks : List ℕ) → place < 65536 → t ≡ 0 → SlotEnd ks t place place
  unfolding after_slot code_of
  end_absent ks l z = record { is = go; small = l }
    where
      go : (f : Found) → t ≡ code_of f → view_at ks place ≡ after_slot f (view_at ks place)
      go absent e = refl
      go clash e = absurd (omega arith)
      go (typed τ) e = absurd (no_digit t τ e (omega arith))

  pub end_typed : (ks : List ℕ) (r : ℕ) → (t ≡ 0 → ⊥) → EndsAt ks t place r → SlotEnd ks t place r
  unfolding after_slot code_of after_view after_found
  end_typed ks r n h = record { is = go; small = h.small }
    where
      go : (f : Found) → t ≡ code_of f → view_at ks r ≡ after_slot f (view_at ks place)
      go absent e = absurd (n e)
      go clash e = h.is clash e ∙ after_untyped (view_at ks place)
      go (typed τ) e = h.is (typed τ) e

-- ------------------------------------------------------------------ slots
-- the values of the variables below x are placed; the others stand from place on
pub record Slotting (ks types : List ℕ) (start : ℕ) (at : List ℕ) (place x : ℕ) : Type 0 where
  pub low : 1 ≤ x
  pub high : x ≤ 9
  pub size : length at ≡ 9
  pub small : place < 65536
  pub below : (f : ℕ → Found) → TypesAre types f → (y : ℕ) → 1 ≤ y → y < x → view_at ks (get_or at y 0) ≡ views eight f (view_at ks start) y
  pub rest : (f : ℕ → Found) → TypesAre types f → (y : ℕ) → x ≤ y → views (from x) f (view_at ks place) y ≡ views eight f (view_at ks start) y
  pub after : (f : ℕ → Found) → TypesAre types f → after_slots (from x) f (view_at ks place) ≡ after_slots eight f (view_at ks start)

pub slotting_none : (ks types : List ℕ) (start : ℕ) (at : List ℕ) → start < 65536 → Unplaced at → Slotting ks types start at start 1
slotting_none ks types start at l u = record {
  low = omega arith;
  high = omega arith;
  size = u.size;
  small = l;
  below = λ f ty y a b. absurd (omega arith);
  rest = λ f ty y a. ap (λ (xs : List ℕ). views xs f (view_at ks start) y) (sym from_one);
  after = λ f ty. ap (λ (xs : List ℕ). after_slots xs f (view_at ks start)) (sym from_one);
}

-- the views from x on: x first
views_first : (x : ℕ) → 1 ≤ x → x < 9 → (f : ℕ → Found) (o : Option (List ℕ)) (y : ℕ) (b : Bool) → eqb x y ≡ b → views (from x) f o y ≡ (if b then slot_view (f x) o else views (from (x + 1)) f (after_slot (f x) o) y)
unfolding views
views_first x a l f o y b e = ap (λ (xs : List ℕ). views xs f o y) (from_next x a l) ∙ ap (λ (c : Bool). if c then slot_view (f x) o else views (from (x + 1)) f (after_slot (f x) o) y) e

module _ (rec : List ℕ) (known : ℕ) (types : List ℕ) (start : ℕ) (in_rec : known ≤ length rec) (bound : known ≤ 20000) where
  pub slotting_more : (at to : List ℕ) (place next x t w : ℕ) → Slotting (take known rec) types start at place x → x < 9 → t ≡ get_or types x 0 → Slot t place w → to ≡ set at x w → SlotEnd (take known rec) t place next →
      Slotting (take known rec) types start to next (x + 1)
  unfolding after_slots
  slotting_more at to place next x t w h l q s e n =
      let a : 1 ≤ x = h.low in
      let z : length at ≡ 9 = h.size in
      record {
        low = omega arith;
        high = omega arith;
        size = ap length e ∙ (simp length-set z);
        small = n.small;
        below = λ f ty y b c. ap (λ (us : List ℕ). view_at (take known rec) (get_or us y 0)) e ∙ here f ty y b c (eqb y x) refl;
        rest = λ f ty y b. ap (λ (o : Option (List ℕ)). views (from (x + 1)) f o y) (n.is (f x) (q ∙ ty x a l)) ∙
            (sym (views_first x a l f (view_at (take known rec) place) y false (ne_eqb x y (λ p. absurd (omega arith)))) ∙ h.rest f ty y (omega arith));
        after = λ f ty. ap (after_slots (from (x + 1)) f) (n.is (f x) (q ∙ ty x a l)) ∙
            (sym (ap (λ (xs : List ℕ). after_slots xs f (view_at (take known rec) place)) (from_next x a l)) ∙ h.after f ty);
      }
    where
      here : (f : ℕ → Found) → TypesAre types f → (y : ℕ) → 1 ≤ y → y < x + 1 → (b : Bool) → eqb y x ≡ b → view_at (take known rec) (get_or (set at x w) y 0) ≡ views eight f (view_at (take known rec) start) y
      here f ty y b c true p =
          let z : y ≡ x = eqb-true y x p in
          let m : length at ≡ 9 = h.size in
          ap (λ (i : ℕ). view_at (take known rec) (get_or (set at x w) i 0)) z ∙ (ap (view_at (take known rec)) (get_or-set_same at x w 0 (omega arith)) ∙
          (s.is (take known rec) (omega (arith, length-take-le known rec in_rec)) (f x) (q ∙ ty x h.low l) ∙
          (sym (views_first x h.low l f (view_at (take known rec) place) x true (eq-eqb x x refl)) ∙
          (h.rest f ty x (omega arith) ∙ ap (views eight f (view_at (take known rec) start)) (sym z)))))
      here f ty y b c false p =
          let z : y ≡ x → ⊥ = eqb-false y x p in
          ap (view_at (take known rec)) (get_or-set_other at x y w 0 z) ∙ h.below f ty y b (omega arith)

-- a variable that is not used has no view
views_absent : (ys : List ℕ) (f : ℕ → Found) (o : Option (List ℕ)) (x : ℕ) → f x ≡ absent → none ≡ views ys f o x
unfolding views slot_view
views_absent [] f o x e = refl
views_absent (y ∷ ys) f o x e = go (views_absent ys f (after_slot (f y) o) x e) (eqb y x) refl
  where
    go : none ≡ views ys f (after_slot (f y) o) x → (b : Bool) → eqb y x ≡ b → none ≡ (if b then slot_view (f y) o else views ys f (after_slot (f y) o) x)
    go ih true t = sym (ap (λ (g : Found). slot_view g o) (ap f (eqb-true y x t) ∙ e))
    go ih false t = ih

pub slotting_all : (ks types : List ℕ) (start : ℕ) (at : List ℕ) (place x : ℕ) → Slotting ks types start at place x → 9 ≤ x → Slotted ks types start at place
unfolding after_slots
slotting_all ks types start at place x h l = record {
  is = λ f ty mask vars out. views_are ks at mask (views eight f (view_at ks start)) vars
      (λ y a b e. h.below f ty y a (omega (arith, h.high))) (λ y e. views_absent eight f (view_at ks start) y (out y e));
  ends = λ f ty. sym (ap (λ (xs : List ℕ). after_slots xs f (view_at ks place)) (from_end x l h.high)) ∙ h.after f ty;
  small = h.small;
}
