-- Taking and dropping around the seam of two lists; results one after another; the length of a run of numbers, its end, and what stands in
-- its image.
use mathlib.Core.Path.{◌∙◌, ◌≡◌, ap, refl, sym}
use mathlib.Core.List.{List, [], ◌++◌, ◌∷◌, append_assoc, map}
use mathlib.Core.Option.{some}
use Prim.Native.Nat.{◌+◌, ◌<◌, suc, zero, ℕ}
use native.Mathlib.Omega.{arith}
use lib.ListN.{drop, get_elem?, length, length-map, take}
use lib.Seq.{drop-append_seam, take-append_seam}
use Rattle.meaning.proofs.Opened.{opened}
use Rattle.meaning.specs.Basics.{each, up_from}

module _ {A : Type 0} where
  pub take_front : (n : ℕ) (a b : List A) → length a ≡ n → take n (a ++ b) ≡ a
  take_front n a b e = ap (λ (m : ℕ). take m (a ++ b)) (sym e) ∙ take-append_seam a b

  pub drop_front : (n : ℕ) (a b : List A) → length a ≡ n → drop n (a ++ b) ≡ b
  drop_front n a b e = ap (λ (m : ℕ). drop m (a ++ b)) (sym e) ∙ drop-append_seam a b

-- the results of f on two lists
pub each_append : (f : ℕ → List ℕ) (a b : List ℕ) → each (a ++ b) f ≡ each a f ++ each b f
unfolding opened
each_append f [] b = refl
each_append f (x ∷ a) b = rw (each_append f a b) (sym (append_assoc (f x) (each a f) (each b f)))

-- the numbers n, counted from i on
pub length_up : (n i : ℕ) → length (up_from n i) ≡ n
unfolding opened
length_up zero i = refl
length_up (suc n) i = ap suc (length_up n (suc i))

pub up_end : (n i : ℕ) → up_from (suc n) i ≡ up_from n i ++ ((i + n) ∷ [])
unfolding opened
up_end zero i = let e : i + 0 ≡ i = omega arith in rw e
up_end (suc n) i = let e : suc i + n ≡ i + suc n = omega arith in rw (up_end n (suc i), e)

-- what f makes of them
module _ {A : Type 0} (f : ℕ → A) where
  pub length_map_up : (n i : ℕ) → length (map f (up_from n i)) ≡ n
  length_map_up n i = length-map (up_from n i) f ∙ length_up n i

  pub at_map_up : (n i e : ℕ) → e < n → get_elem? (map f (up_from n i)) e ≡ some (f (i + e))
  unfolding opened
  at_map_up zero i e h = absurd (omega arith)
  at_map_up (suc n) i zero h = ap (λ (k : ℕ). some (f k)) (omega arith)
  at_map_up (suc n) i (suc e) h = at_map_up n (suc i) e (omega arith) ∙ ap (λ (k : ℕ). some (f k)) (omega arith)
