-- Membership in the lists that the definitions compute with.
use mathlib.Core.Path.{◌∙◌, ◌≡◌, ap, refl, sym}
use mathlib.Core.List.Memᴰ
use mathlib.Core.List.{List, [], ◌∷◌, map}
use mathlib.Core.Bool.{Bool, false, true}
use mathlib.Core.Logic.{◌⊎◌, inl, inr}
use Prim.Native.Nat.{ℕ}
use Rattle.meaning.proofs.Logic.{no_false}
use Rattle.meaning.proofs.Opened.{opened}
use Rattle.meaning.specs.Basics.{◌∈◌, each, keep, only}
use Rattle.meaning.specs.Graph.{Walk, ◌·◌, src, step, stop, tgt}
use Rattle.meaning.specs.Meaning.{splits, step_first}

module _ {A : Type 0} where
  pub only→ : (t : Bool) {a b : A} → b ∈ only t a → (t ≡ true) × (b ≡ a)
  unfolding opened
  only→ true m = (refl, go (Memᴰ.cases_cons m))
    where
      go : {a b : A} → (b ≡ a) ⊎ (b ∈ []) → b ≡ a
      go (inl e) = e
      go (inr n) = absurd (Memᴰ.not-nil n)
  only→ false m = absurd (Memᴰ.not-nil m)

  pub only← : (t : Bool) {a b : A} → t ≡ true → b ≡ a → b ∈ only t a
  unfolding opened
  only← true h e = Memᴰ.head e
  only← false h e = no_false h

  pub keep→ : (f : A → Bool) (l : List A) {a : A} → a ∈ keep f l → (a ∈ l) × (f a ≡ true)
  unfolding opened
  keep→ f [] m = absurd (Memᴰ.not-nil m)
  keep→ f (x ∷ xs) {a} m = go (λ n. keep→ f xs {a = a} n) (Memᴰ.append_cases (only (f x) x) m)
    where
      go : (a ∈ keep f xs → (a ∈ xs) × (f a ≡ true)) → (a ∈ only (f x) x) ⊎ (a ∈ keep f xs) → (a ∈ x ∷ xs) × (f a ≡ true)
      go ih (inl n) = let p = only→ (f x) n in (Memᴰ.head p.1, ap f p.1 ∙ p.0)
      go ih (inr n) = let p = ih n in (Memᴰ.tail p.0, p.1)

  pub keep← : (f : A → Bool) {a : A} {l : List A} → a ∈ l → f a ≡ true → a ∈ keep f l
  unfolding opened
  keep← f (Memᴰ.head {x = x} {xs = xs} e) h = Memᴰ.append_left (keep f xs) (only← (f x) (ap f (sym e) ∙ h) e)
  keep← f (Memᴰ.tail {x = x} m) h = Memᴰ.append_right (only (f x) x) (keep← f m h)

module _ {A B : Type 0} where
  pub each→ : (l : List A) (f : A → List B) {b : B} → b ∈ each l f → (a : A) × (a ∈ l) × (b ∈ f a)
  unfolding opened
  each→ [] f m = absurd (Memᴰ.not-nil m)
  each→ (x ∷ xs) f {b} m = go (λ n. each→ xs f {b = b} n) (Memᴰ.append_cases (f x) m)
    where
      go : (b ∈ each xs f → (a : A) × (a ∈ xs) × (b ∈ f a)) → (b ∈ f x) ⊎ (b ∈ each xs f) → (a : A) × (a ∈ x ∷ xs) × (b ∈ f a)
      go ih (inl n) = (x, Memᴰ.head refl, n)
      go ih (inr n) = let p = ih n in (p.0, Memᴰ.tail p.1, p.2)

  pub each← : (f : A → List B) {a : A} {b : B} {l : List A} → a ∈ l → b ∈ f a → b ∈ each l f
  unfolding opened
  each← f {b = b} (Memᴰ.head {x = x} {xs = xs} e) n = Memᴰ.append_left (each xs f) (rw e at n)
  each← f (Memᴰ.tail {x = x} m) n = Memᴰ.append_right (f x) (each← f m n)

pub splits→ : (p : Walk) {s : Walk × Walk} → s ∈ splits p → (tgt s.0 ≡ src s.1) × (p ≡ s.0 · s.1)
unfolding opened
splits→ (stop u) {s} m = go (Memᴰ.cases_cons m)
  where
    go : (s ≡ (stop u, stop u)) ⊎ (s ∈ []) → (tgt s.0 ≡ src s.1) × (stop u ≡ s.0 · s.1)
    go (inl e) = rw e (refl, refl)
    go (inr n) = absurd (Memᴰ.not-nil n)
splits→ (step u e p) {s} m = go (λ t n. splits→ p {s = t} n) (Memᴰ.cases_cons m)
  where
    go : ((t : Walk × Walk) → t ∈ splits p → (tgt t.0 ≡ src t.1) × (p ≡ t.0 · t.1)) → (s ≡ (stop u, step u e p)) ⊎ (s ∈ map (step_first u e) (splits p)) → (tgt s.0 ≡ src s.1) × (step u e p ≡ s.0 · s.1)
    go ih (inl q) = rw q (refl, refl)
    go ih (inr n) = let w = Memᴰ.of_map (step_first u e) (splits p) n in let h = ih w.0 w.1 in rw (← w.2) (h.0, ap (step u e) h.1)

pub splits← : (q r : Walk) → tgt q ≡ src r → (q, r) ∈ splits (q · r)
unfolding opened
splits← (stop u) (stop v) h = Memᴰ.head (ap (λ (k : ℕ). (stop k, stop v)) h)
splits← (stop u) (step v e r) h = Memᴰ.head (ap (λ (k : ℕ). (stop k, step v e r)) h)
splits← (step u e q) r h = Memᴰ.tail (Memᴰ.map (step_first u e) (splits← q r h))
