-- No more than n different numbers are below n.
use mathlib.Core.Path.{◌≡◌, refl, sym}
use mathlib.Core.List.Memᴰ
use mathlib.Core.List.{List, [], ◌∷◌}
use mathlib.Core.Bool.{Bool, false, true}
use mathlib.Core.Logic.{◌≢◌}
use Prim.Native.Nat.{◌<◌, ◌≤◌, suc, zero, ℕ}
use native.Mathlib.Omega.{arith}
use lib.Dec.{eqb}
use lib.ListN.{length}
use borrow.Author.Tests.{eqb-false, eqb-true}
use Rattle.meaning.proofs.Logic.{either}
use Rattle.meaning.proofs.Opened.{opened}
use Rattle.meaning.specs.Basics.{All, ◌∈◌}

abbrev pub Distinct : List ℕ → Type 0
Distinct [] = Unit {0}
Distinct (x ∷ xs) = (x ∈ xs → ⊥) × Distinct xs

abbrev pub Under : ℕ → List ℕ → Type 0
Under n l = All (λ x. x < n) l

abbrev pick : Bool → ℕ → List ℕ → List ℕ → List ℕ
pick true x xs r = xs
pick false x xs r = x ∷ r

abbrev without : ℕ → List ℕ → List ℕ
without n [] = []
without n (x ∷ xs) = pick (eqb x n) x xs (without n xs)

without_length : (n : ℕ) (l : List ℕ) → length l ≤ suc (length (without n l))
unfolding opened
without_length n [] = omega arith
without_length n (x ∷ xs) = go (eqb x n) (without_length n xs)
  where
    go : (b : Bool) → length xs ≤ suc (length (without n xs)) → suc (length xs) ≤ suc (length (pick b x xs (without n xs)))
    go true ih = omega arith
    go false ih = omega arith

without_mem : (n : ℕ) (l : List ℕ) {y : ℕ} → y ∈ without n l → y ∈ l
unfolding opened
without_mem n [] m = m
without_mem n (x ∷ xs) {y} m = go (eqb x n) (without_mem n xs) m
  where
    go : (b : Bool) → (y ∈ without n xs → y ∈ xs) → y ∈ pick b x xs (without n xs) → y ∈ x ∷ xs
    go true ih m = Memᴰ.tail m
    go false ih m = either (Memᴰ.cases_cons m) (λ e. Memᴰ.head e) (λ k. Memᴰ.tail (ih k))

without_distinct : (n : ℕ) (l : List ℕ) → Distinct l → Distinct (without n l)
unfolding opened
without_distinct n [] d = tt
without_distinct n (x ∷ xs) d = go (eqb x n) (without_distinct n xs d.1)
  where
    go : (b : Bool) → Distinct (without n xs) → Distinct (pick b x xs (without n xs))
    go true ih = d.1
    go false ih = ((λ m. d.0 (without_mem n xs m)), ih)

under_less : (n : ℕ) (l : List ℕ) → (n ∈ l → ⊥) → Under (suc n) l → Under n l
unfolding opened
under_less n [] h u = tt
under_less n (x ∷ xs) h u = let q : x ≢ n = (λ e. h (Memᴰ.head (sym e))) in let k : x < suc n = u.0 in (omega arith, under_less n xs (λ m. h (Memᴰ.tail m)) u.1)

without_under : (n : ℕ) (l : List ℕ) → Distinct l → Under (suc n) l → Under n (without n l)
unfolding opened
without_under n [] d u = tt
without_under n (x ∷ xs) d u = go (eqb x n) refl (without_under n xs d.1 u.1)
  where
    go : (b : Bool) → eqb x n ≡ b → Under n (without n xs) → Under n (pick b x xs (without n xs))
    go true e ih = under_less n xs (λ m. d.0 (Memᴰ.cast (eqb-true x n e) m)) u.1
    go false e ih = let q : x ≢ n = eqb-false x n e in let k : x < suc n = u.0 in (omega arith, ih)

pub pigeon : (n : ℕ) (l : List ℕ) → Distinct l → Under n l → length l ≤ n
unfolding opened
pigeon zero [] d u = omega arith
pigeon zero (x ∷ xs) d u = let h : x < 0 = u.0 in absurd (omega arith)
pigeon (suc n) l d u = let h : length (without n l) ≤ n = pigeon n (without n l) (without_distinct n l d) (without_under n l d u) in omega (arith, without_length n l)
