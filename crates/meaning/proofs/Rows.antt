-- The one equation of a table's rows, and induction over them.
use mathlib.Core.Path.{◌∙◌, ◌≡◌, refl}
use mathlib.Core.List.{List, [], ◌++◌, ◌∷◌}
use mathlib.Core.Bool.{Bool, ◌&&◌, false, true}
use mathlib.Core.Logic.{◌≢◌}
use Prim.Native.Nat.{◌<◌, ◌≤◌, suc, zero, ℕ}
use native.Mathlib.Omega.{arith}
use lib.Dec.{eqb, leb, ltb}
use lib.ListN.{get_or-append, get_or, length, length-append}
use lib.Seq.{get_or_at}
use borrow.Author.Tests.{eqb-false, eqb-true, ltb-true}
use Rattle.meaning.proofs.Logic.{and_l, and_r}
use Rattle.meaning.proofs.Opened.{opened}
use Rattle.meaning.specs.Table.{Form, Item, Row, condition_form, condition_row, fine, form_at, is_and, is_bad, is_concatenation, is_conditioned, is_constant, is_edge, is_node_lem, is_not, is_or, is_property, is_repetition, is_union, item_at, lower, make, no_item, pattern_form, pattern_row_lem}

module _ (t : List Row) where
  length_lower : (i : ℕ) → length (lower t i) ≡ i
  unfolding opened
  length_lower zero = refl
  length_lower (suc i) = length-append (lower t i) (make (λ j. get_or (lower t i) j no_item) (form_at t i) ∷ []) ∙ omega (arith, length_lower i)

  lower_get : (i p : ℕ) → p < i → get_or (lower t i) p no_item ≡ item_at t p
  unfolding opened
  lower_get zero p h = absurd (omega arith)
  lower_get (suc i) p h = go (eqb p i) refl (lower_get i p)
    where
      go : (b : Bool) → eqb p i ≡ b → (p < i → get_or (lower t i) p no_item ≡ item_at t p) → get_or (lower t i ++ (item_at t i ∷ [])) p no_item ≡ item_at t p
      go true e ih = rw (eqb-true p i e) (get_or_at (lower t i) (item_at t i) [] no_item i (length_lower i))
      go false e ih = let q : p ≢ i = eqb-false p i e in let k : p < i = omega arith in get_or-append (lower t i) (item_at t i ∷ []) no_item p (omega (arith, length_lower i)) ∙ ih k

  pub pattern_below : (i p : ℕ) → pattern_row_lem t i p ≡ true → p < i
  unfolding opened
  pattern_below i p e = ltb-true p i (and_l (ltb p i) (pattern_form (form_at t p)) e)

  pub condition_below : (i p : ℕ) → condition_row t i p ≡ true → p < i
  unfolding opened
  condition_below i p e = ltb-true p i (and_l (ltb p i) (condition_form (form_at t p)) e)

  make_same : (i : ℕ) (g h : ℕ → Item) → ((j : ℕ) → j < i → g j ≡ h j) → (f : Form) → fine t i f ≡ true → make g f ≡ make h f
  unfolding opened
  make_same i g h s (is_node_lem x l) e = refl
  make_same i g h s (is_edge d x l) e = refl
  make_same i g h s (is_union p q) e = rw (s p (pattern_below i p (and_l (pattern_row_lem t i p) (pattern_row_lem t i q) e)), s q (pattern_below i q (and_r (pattern_row_lem t i p) (pattern_row_lem t i q) e)))
  make_same i g h s (is_concatenation p q) e = rw (s p (pattern_below i p (and_l (pattern_row_lem t i p) (pattern_row_lem t i q) e)), s q (pattern_below i q (and_r (pattern_row_lem t i p) (pattern_row_lem t i q) e)))
  make_same i g h s (is_conditioned p q) e = rw (s p (pattern_below i p (and_l (pattern_row_lem t i p) (condition_row t i q) e)), s q (condition_below i q (and_r (pattern_row_lem t i p) (condition_row t i q) e)))
  make_same i g h s (is_repetition p r n) e = rw (s p (pattern_below i p (and_l (pattern_row_lem t i p) (leb r 65534 && leb r n) e)))
  make_same i g h s (is_constant x k c) e = refl
  make_same i g h s (is_property x k y l) e = refl
  make_same i g h s (is_and p q) e = rw (s p (condition_below i p (and_l (condition_row t i p) (condition_row t i q) e)), s q (condition_below i q (and_r (condition_row t i p) (condition_row t i q) e)))
  make_same i g h s (is_or p q) e = rw (s p (condition_below i p (and_l (condition_row t i p) (condition_row t i q) e)), s q (condition_below i q (and_r (condition_row t i p) (condition_row t i q) e)))
  make_same i g h s (is_not p) e = rw (s p (condition_below i p e))
  make_same i g h s is_bad e = refl

  pub item_is : (i : ℕ) → fine t i (form_at t i) ≡ true → item_at t i ≡ make (item_at t) (form_at t i)
  unfolding opened
  item_is i e = make_same i (λ j. get_or (lower t i) j no_item) (item_at t) (lower_get i) (form_at t i) e

  -- ---------------- a fact of every row, from the rows below it
  module _ (P : Item → Type 0) (ok : (i : ℕ) → i < length t → fine t i (form_at t i) ≡ true)
      (row : (i : ℕ) → i < length t → ((j : ℕ) → j < i → P (item_at t j)) → (f : Form) → fine t i f ≡ true → item_at t i ≡ make (item_at t) f → P (make (item_at t) f)) where
    up : (n : ℕ) → n ≤ length t → (i : ℕ) → i < n → P (item_at t i)
    unfolding opened
    up zero b i h = absurd (omega arith)
    up (suc n) b i h =
        let e = ok i (omega arith) in
        rw (item_is i e) (row i (omega arith) (λ j k. up n (omega arith) j (omega arith)) (form_at t i) e (item_is i e))

    pub every_row : (i : ℕ) → i < length t → P (item_at t i)
    unfolding opened
    every_row i h = up (length t) (omega arith) i h
