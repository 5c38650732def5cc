-- The order of rows and of pairs.
use mathlib.Core.Path.{◌≡◌, refl}
use mathlib.Core.Bool.{Bool, ◌&&◌, or-false, true}
use mathlib.Core.Logic.{◌⊎◌, inl, inr}
use Prim.Native.Nat.{ℕ, zero, suc, ◌-◌, ◌<◌}
use native.Mathlib.Omega.{arith}
use lib.Dec.{eqb, ltb}
use borrow.Author.Tests.{eq-eqb, ne_eqb, le-ltb, lt-ltb, ltb-true, eqb-true}
use Rattle.meaning.specs.Image.{pair_less_lem, rises}
use Rattle.meaning.proofs.Logic.{either, or_cases, or_l, or_r, and_l, and_r}

pub first_rises : (f : ℕ → Bool) (i : ℕ) → i ≡ 0 → rises i f ≡ true
unfolding rises
first_rises f zero e = refl
first_rises f (suc i) e = absurd (omega arith)

pub later_rises : (f : ℕ → Bool) (i : ℕ) → (i ≡ 0 → ⊥) → rises i f ≡ f (i - 1)
unfolding rises
later_rises f zero h = absurd (h refl)
later_rises f (suc i) h =
    let e : suc i - 1 ≡ i = omega arith in
    rw e

pub same_first : (a b c d : ℕ) → a ≡ c → ltb b d ≡ pair_less_lem a b c d
unfolding pair_less_lem
same_first a b c d h = rw (le-ltb a c (omega arith), eq-eqb a c h)

pub other_first : (a b c d : ℕ) → (a ≡ c → ⊥) → ltb a c ≡ pair_less_lem a b c d
unfolding pair_less_lem
other_first a b c d h = rw (ne_eqb a c h, or-false (ltb a c))

-- ------------------------------------------------------------------ pairs that come before each other
abbrev Less : ℕ → ℕ → ℕ → ℕ → Type 0
Less a b c d = (a < c) ⊎ ((a ≡ c) × (b < d))

is_less : (a b c d : ℕ) → pair_less_lem a b c d ≡ true → Less a b c d
unfolding pair_less_lem
is_less a b c d h = either (or_cases (ltb a c) (eqb a c && ltb b d) h)
    (λ k. inl (ltb-true a c k))
    (λ k. inr (eqb-true a c (and_l (eqb a c) (ltb b d) k), ltb-true b d (and_r (eqb a c) (ltb b d) k)))

less_is : (a b c d : ℕ) → Less a b c d → pair_less_lem a b c d ≡ true
unfolding pair_less_lem
less_is a b c d (inl h) = or_l (ltb a c) (eqb a c && ltb b d) (lt-ltb a c h)
less_is a b c d (inr h) = or_r (ltb a c) (eqb a c && ltb b d) (rw (eq-eqb a c h.0, lt-ltb b d h.1))

pub less_trans : (a b c d e f : ℕ) → pair_less_lem a b c d ≡ true → pair_less_lem c d e f ≡ true → pair_less_lem a b e f ≡ true
less_trans a b c d e f h k = less_is a b e f (go (is_less a b c d h) (is_less c d e f k))
  where
    go : Less a b c d → Less c d e f → Less a b e f
    go (inl x) (inl y) = inl (omega arith)
    go (inl x) (inr y) = inl (omega arith)
    go (inr x) (inl y) = inl (omega arith)
    go (inr x) (inr y) = inr (omega arith, omega arith)
