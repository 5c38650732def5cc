-- The lowest faulty row, and causes tried in order.
use mathlib.Core.Path.{◌∙◌, ◌≡◌, ap, refl, sym}
use mathlib.Core.Option.{Option, none, some}
use mathlib.Core.Bool.{Bool, false, true}
use mathlib.Core.Logic.{◌≢◌}
use Prim.Native.Nat.{◌+◌, ◌<◌, ◌≤◌, suc, zero, ℕ}
use native.Mathlib.Omega.{arith}
use lib.Dec.{eqb, ltb}
use borrow.Author.Tests.{eqb-false, eqb-true, ltb-false, ltb-true}
use Rattle.meaning.proofs.Logic.{no_none, no_some, no_true, some_inj}
use Rattle.meaning.proofs.Opened.{opened}
use Rattle.meaning.specs.Basics.{Cause, at_row, first_of, lowest, rowless}

pub lowest_none : (n i : ℕ) (f : ℕ → Bool) → lowest n i f ≡ none → (j : ℕ) → i ≤ j → j < i + n → f j ≡ false
unfolding opened
lowest_none zero i f e j a b = absurd (omega arith)
lowest_none (suc n) i f e j a b = go (f i) refl e (lowest_none n (suc i) f)
  where
    go : (c : Bool) → f i ≡ c → ◌≡◌ {A = Option ℕ} (elim c [ true ↦ some i | false ↦ lowest n (suc i) f ]) none → (lowest n (suc i) f ≡ none → (k : ℕ) → suc i ≤ k → k < suc i + n → f k ≡ false) → f j ≡ false
    go true q e ih = no_some e
    go false q e ih = at (eqb j i) refl
      where
        at : (d : Bool) → eqb j i ≡ d → f j ≡ false
        at true p = ap f (eqb-true j i p) ∙ q
        at false p = let r : j ≢ i = eqb-false j i p in ih e j (omega arith) (omega arith)

-- a row that is found has the fault, and no row below it has
pub lowest_some : (n i : ℕ) (f : ℕ → Bool) (k : ℕ) → lowest n i f ≡ some k → (i ≤ k) × (k < i + n) × (f k ≡ true) × ((j : ℕ) → i ≤ j → j < k → f j ≡ false)
unfolding opened
lowest_some zero i f k e = no_none e
lowest_some (suc n) i f k e = go (f i) refl e (lowest_some n (suc i) f k)
  where
    go : (c : Bool) → f i ≡ c → ◌≡◌ {A = Option ℕ} (elim c [ true ↦ some i | false ↦ lowest n (suc i) f ]) (some k) → (lowest n (suc i) f ≡ some k → (suc i ≤ k) × (k < suc i + n) × (f k ≡ true) × ((j : ℕ) → suc i ≤ j → j < k → f j ≡ false)) → (i ≤ k) × (k < i + suc n) × (f k ≡ true) × ((j : ℕ) → i ≤ j → j < k → f j ≡ false)
    go true q e ih = let z : i ≡ k = some_inj e in (omega arith, omega arith, ap f (sym z) ∙ q, λ j a b. absurd (omega arith))
    go false q e ih = let h = ih e in (omega (arith, h.0), omega (arith, h.1), h.2, λ j a b. at j (eqb j i) refl a b (h.3 j))
      where
        at : (j : ℕ) (d : Bool) → eqb j i ≡ d → i ≤ j → j < k → (suc i ≤ j → j < k → f j ≡ false) → f j ≡ false
        at j true p a b g = ap f (eqb-true j i p) ∙ q
        at j false p a b g = let r : j ≢ i = eqb-false j i p in g (omega arith) b

-- the lowest row with a fault is the one that is found
pub lowest_found : (n i : ℕ) (f : ℕ → Bool) (k : ℕ) → i ≤ k → k < i + n → f k ≡ true → ((j : ℕ) → i ≤ j → j < k → f j ≡ false) → lowest n i f ≡ some k
unfolding opened
lowest_found n i f k a b t h = go (lowest n i f) refl
  where
    go : (o : Option ℕ) → lowest n i f ≡ o → o ≡ some k
    go none e = no_true (sym t ∙ lowest_none n i f e k a b)
    go (some l) e = let z = lowest_some n i f l e in ap some (same_row l z.0 z.2 z.3 (ltb l k) (ltb k l) refl refl)
      where
        same_row : (l : ℕ) → i ≤ l → f l ≡ true → ((j : ℕ) → i ≤ j → j < l → f j ≡ false) → (p q : Bool) → ltb l k ≡ p → ltb k l ≡ q → l ≡ k
        same_row l c u g true q e₁ e₂ = no_true (sym u ∙ h l c (ltb-true l k e₁))
        same_row l c u g false true e₁ e₂ = no_true (sym t ∙ g k a (ltb-true k l e₂))
        same_row l c u g false false e₁ e₂ = omega (arith, ltb-false l k e₁, ltb-false k l e₂)

pub first_none : (a c : Cause) → first_of a c ≡ none → (a ≡ none) × (c ≡ none)
unfolding opened
first_none none c e = (refl, e)
first_none (some x) c e = no_some e

pub whole_none : (n : ℕ) (t : Bool) → rowless n t ≡ none → t ≡ false
unfolding opened
whole_none n true e = no_some e
whole_none n false e = refl

pub at_row_none : (n : ℕ) (o : Option ℕ) → at_row n o ≡ none → o ≡ none
unfolding opened
at_row_none n none e = refl
at_row_none n (some i) e = no_some e
