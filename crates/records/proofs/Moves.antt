-- Places made one after another, and places so many words on. Assumes nothing.
use Rattle.bits.proofs.Cases.{by_ltb}
use mathlib.Core.Path.{◌∙◌, ◌≡◌, ap, fun_ext, refl, sym}
use mathlib.Core.List.{List, [], ◌∷◌}
use mathlib.Core.Option.{Option, none, some}
use mathlib.Core.Bool.{Bool, false, true}
use Prim.Native.Nat.{◌+◌, ◌<◌, ◌≤◌, suc, zero, ℕ, min}
use native.Mathlib.Omega.{arith}
use lib.Dec.{eqb}
use lib.ListN.{get_or, length, length-set, replicate, set}
use lib.Seq.{get_or-set_other, get_or-set_same}
use borrow.Author.Tests.{eqb-false, eqb-true}
use Rattle.bits.specs.Sets.{bit}
use Rattle.matcher.specs.Values.{option_bind, skip}
use Rattle.matcher.specs.Views.{after_first, unknown}
use Rattle.matcher.proofs.Opened.{matcher_opened}
use Rattle.matcher.proofs.Places.{view_far, view_skip, view_at}
use Rattle.records.proofs.Firsts.{view_in, view_out}
use Rattle.records.specs.Places.{Moved, Shifted, Unplaced, Variables, views_of}

-- views by their variables: in the mask, and out of it
pub views_are : (ks to : List ℕ) (mask : ℕ) (v : ℕ → Option (List ℕ)) → Variables mask →
    ((x : ℕ) → 1 ≤ x → x < 9 → bit mask x ≡ true → view_at ks (get_or to x 0) ≡ v x) → ((x : ℕ) → bit mask x ≡ false → none ≡ v x) → views_of ks to mask ≡ v
views_are ks to mask v vars f g = fun_ext (λ x. go x (bit mask x) refl)
  where
    go : (x : ℕ) (b : Bool) → bit mask x ≡ b → views_of ks to mask x ≡ v x
    go x true e = view_in ks to mask x e ∙ f x (vars x e).0 (vars x e).1 e
    go x false e = view_out ks to mask x e ∙ g x e

-- ------------------------------------------------------------------ none
none_at : (x : ℕ) → x < 9 → ◌≡◌ {A = ℕ} (get_or (replicate 9 65535) x 0) 65535
none_at zero h = refl
none_at (suc zero) h = refl
none_at (suc (suc zero)) h = refl
none_at (suc (suc (suc zero))) h = refl
none_at (suc (suc (suc (suc zero)))) h = refl
none_at (suc (suc (suc (suc (suc zero))))) h = refl
none_at (suc (suc (suc (suc (suc (suc zero)))))) h = refl
none_at (suc (suc (suc (suc (suc (suc (suc zero))))))) h = refl
none_at (suc (suc (suc (suc (suc (suc (suc (suc zero)))))))) h = refl
none_at (suc (suc (suc (suc (suc (suc (suc (suc (suc n))))))))) h = absurd (omega arith)

pub unplaced : Unplaced (replicate 9 65535)
unfolding unknown
unplaced = record {
  size = refl;
  is = λ ks mask l vars. views_are ks (replicate 9 65535) mask unknown vars
      (λ x a b e. ap (λ (k : ℕ). view_at ks k) (none_at x b) ∙ view_far ks 65535 l) (λ x e. refl);
}

-- ------------------------------------------------------------------ shifted
module _ (at : List ℕ) (by x place : ℕ) (q : place ≡ get_or at x 0) where
  pub shifted_is : (r : ℕ) → r ≡ min 65535 (place + by) → Shifted at by x r
  shifted_is r e = record { is = λ ks k. by_ltb (place + by) 65535 (λ l. near ks l) (λ l. far ks k l); small = omega arith }
    where
      near : (ks : List ℕ) → place + by < 65535 → view_at ks r ≡ view_at ks (get_or at x 0 + by)
      near ks l = let z : r ≡ get_or at x 0 + by = omega arith in ap (view_at ks) z

      far : (ks : List ℕ) → length ks < 65535 → 65535 ≤ place + by → view_at ks r ≡ view_at ks (get_or at x 0 + by)
      far ks k l = view_far ks r (omega arith) ∙ sym (view_far ks (get_or at x 0 + by) (omega arith))

-- ------------------------------------------------------------------ a loop that makes places
-- the places of the variables below x are made as P says
pub record Made (P : ℕ → ℕ → Type 0) (b : List ℕ) (x : ℕ) : Type 0 where
  pub low : 1 ≤ x
  pub high : x ≤ 9
  pub size : length b ≡ 9
  pub is : (y : ℕ) → 1 ≤ y → y < x → P y (get_or b y 0)

pub made_none : (P : ℕ → ℕ → Type 0) (b : List ℕ) → Unplaced b → Made P b 1
made_none P b u = record { low = omega arith; high = omega arith; size = u.size; is = λ y l h. absurd (omega arith) }

pub made_more : (P : ℕ → ℕ → Type 0) (b b' : List ℕ) (x w : ℕ) → Made P b x → x < 9 → P x w → b' ≡ set b x w → Made P b' (x + 1)
made_more P b b' x w h l p e =
    let a : 1 ≤ x = h.low in
    let s : length b ≡ 9 = h.size in
    record { low = omega arith; high = omega arith; size = ap length e ∙ (simp length-set s); is = λ y m n. rw e (go y m n (eqb y x) refl) }
  where
    go : (y : ℕ) → 1 ≤ y → y < x + 1 → (t : Bool) → eqb y x ≡ t → P y (get_or (set b x w) y 0)
    go y m n true t =
        let z : y ≡ x = eqb-true y x t in
        let s : length b ≡ 9 = h.size in
        rw z (rw (get_or-set_same b x w 0 (omega arith)) p)
    go y m n false t =
        let z : y ≡ x → ⊥ = eqb-false y x t in
        rw (get_or-set_other b x y w 0 z) (h.is y m (omega arith))

-- ------------------------------------------------------------------ moved
pub moved_all : (at : List ℕ) (by : ℕ) (to : List ℕ) (x : ℕ) → Made (Shifted at by) to x → 9 ≤ x → Moved at by to
unfolding matcher_opened
moved_all at by to x h l = record { is = skips; first = λ e ks mask k vars. skips ks mask k vars ∙ fun_ext (λ y. ones e (views_of ks at mask y)) }
  where
    skips : (ks : List ℕ) (mask : ℕ) → length ks < 65535 → Variables mask → views_of ks to mask ≡ (λ y. option_bind (views_of ks at mask y) (skip by))
    skips ks mask k vars = views_are ks to mask (λ y. option_bind (views_of ks at mask y) (skip by)) vars
        (λ y a b e. (h.is y a (omega (arith, h.high))).is ks k ∙ (sym (view_skip ks (get_or at y 0) by) ∙ ap (λ (o : Option (List ℕ)). option_bind o (skip by)) (sym (view_in ks at mask y e))))
        (λ y e. ap (λ (o : Option (List ℕ)). option_bind o (skip by)) (sym (view_out ks at mask y e)))

    ones : by ≡ 1 → (o : Option (List ℕ)) → option_bind o (skip by) ≡ after_first o
    ones e o = ap (λ (n : ℕ). option_bind o (skip n)) e ∙ one o
      where
        one : (o : Option (List ℕ)) → option_bind o (skip 1) ≡ after_first o
        one none = refl
        one (some []) = refl
        one (some (u ∷ us)) = refl
