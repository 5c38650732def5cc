-- 12 and 13: a named row is lower than the row that names it, and every row but the last is named.
use mathlib.Core.Path.{◌≡◌, refl, sym}
use mathlib.Core.List.Memᴰ
use mathlib.Core.List.{List, [], ◌∷◌}
use mathlib.Core.Bool.{Bool, ◌&&◌, false, not, true}
use mathlib.Core.Logic.{◌≢◌, ◌⊎◌, inl, inr}
use Prim.Native.Nat.{◌<◌, suc, ℕ}
use native.Mathlib.Omega.{arith}
use lib.Dec.{eqb, leb}
use lib.ListN.{get_or, length}
use borrow.Author.Tests.{eqb-true, ne_eqb}
use Rattle.meaning.proofs.Logic.{and_l, and_r, either, no_true, not_false}
use Rattle.meaning.proofs.Members.{each→}
use Rattle.meaning.proofs.Opened.{opened}
use Rattle.meaning.proofs.Rows.{condition_below, pattern_below}
use Rattle.std.specs.Prelude.{if◌then◌else◌}
use Rattle.meaning.specs.Basics.{◌∈◌, each}
use Rattle.meaning.specs.Table.{Form, Row, condition_row, fault13, fine, form, form_at, is_and, is_bad, is_concatenation, is_conditioned, is_constant, is_edge, is_node_lem, is_not, is_or, is_property, is_repetition, is_union, names_of, no_row, pattern_form, pattern_row_lem, times}

times_member : (x : ℕ) (l : List ℕ) → times x l ≢ 0 → x ∈ l
unfolding opened
times_member x [] h = absurd (h refl)
times_member x (y ∷ l) h = go (eqb x y) refl (times_member x l) h
  where
    go : (b : Bool) → eqb x y ≡ b → (times x l ≢ 0 → x ∈ l) → (if b then suc (times x l) else times x l) ≢ 0 → x ∈ (y ∷ l)
    go true e ih n = Memᴰ.head (eqb-true x y e)
    go false e ih n = Memᴰ.tail (ih n)

row_of : {l : Row} {t : List Row} → l ∈ t → (j : ℕ) × (j < length t) × (get_or t j no_row ≡ l)
unfolding opened
row_of (Memᴰ.head e) = (0, omega arith, sym e)
row_of (Memᴰ.tail m) = let h = row_of m in (suc h.0, omega (arith, h.1), h.2)

pub pair_cases : {x p q : ℕ} → x ∈ (p ∷ q ∷ []) → (x ≡ p) ⊎ (x ≡ q)
unfolding opened
pair_cases (Memᴰ.head e) = inl e
pair_cases (Memᴰ.tail (Memᴰ.head e)) = inr e
pair_cases (Memᴰ.tail (Memᴰ.tail m)) = absurd (Memᴰ.not-nil m)

pub one_case : {x p : ℕ} → x ∈ (p ∷ []) → x ≡ p
unfolding opened
one_case (Memᴰ.head e) = e
one_case (Memᴰ.tail m) = absurd (Memᴰ.not-nil m)

both_below : {i p q j : ℕ} → p < j → q < j → i ∈ (p ∷ q ∷ []) → i < j
both_below h k m = either (pair_cases m) (λ e. omega arith) (λ e. omega arith)

one_below : {i p j : ℕ} → p < j → i ∈ (p ∷ []) → i < j
one_below h m = omega (arith, one_case m)

module _ (t : List Row) where
  -- 12: a named row is lower
  pub names_below : (j i : ℕ) (f : Form) → fine t j f ≡ true → i ∈ names_of f → i < j
  unfolding opened
  names_below j i (is_node_lem x l) e m = absurd (Memᴰ.not-nil m)
  names_below j i (is_edge d x l) e m = absurd (Memᴰ.not-nil m)
  names_below j i (is_union p q) e m = both_below (pattern_below t j p (and_l (pattern_row_lem t j p) (pattern_row_lem t j q) e)) (pattern_below t j q (and_r (pattern_row_lem t j p) (pattern_row_lem t j q) e)) m
  names_below j i (is_concatenation p q) e m = both_below (pattern_below t j p (and_l (pattern_row_lem t j p) (pattern_row_lem t j q) e)) (pattern_below t j q (and_r (pattern_row_lem t j p) (pattern_row_lem t j q) e)) m
  names_below j i (is_conditioned p q) e m = both_below (pattern_below t j p (and_l (pattern_row_lem t j p) (condition_row t j q) e)) (condition_below t j q (and_r (pattern_row_lem t j p) (condition_row t j q) e)) m
  names_below j i (is_repetition p r s) e m = one_below (pattern_below t j p (and_l (pattern_row_lem t j p) (leb r 65534 && leb r s) e)) m
  names_below j i (is_constant x k c) e m = absurd (Memᴰ.not-nil m)
  names_below j i (is_property x k y l) e m = absurd (Memᴰ.not-nil m)
  names_below j i (is_and p q) e m = both_below (condition_below t j p (and_l (condition_row t j p) (condition_row t j q) e)) (condition_below t j q (and_r (condition_row t j p) (condition_row t j q) e)) m
  names_below j i (is_or p q) e m = both_below (condition_below t j p (and_l (condition_row t j p) (condition_row t j q) e)) (condition_below t j q (and_r (condition_row t j p) (condition_row t j q) e)) m
  names_below j i (is_not p) e m = one_below (condition_below t j p e) m
  names_below j i is_bad e m = absurd (Memᴰ.not-nil m)

  -- 13: every row but the last is named by a row
  pub named_by : ((i : ℕ) → i < length t → fault13 t i ≡ false) → (i : ℕ) → suc i < length t → (j : ℕ) × (j < length t) × (i ∈ names_of (form_at t j))
  unfolding opened
  named_by once i h =
      let names : List ℕ = each t (λ l. names_of (form l)) in
      let l = each→ t (λ l. names_of (form l)) (times_member i names (omega (arith, go (eqb (suc i) (length t)) (ne_eqb (suc i) (length t) (omega arith)) (once i (omega arith))))) in
      let j = row_of l.1 in
      (j.0, j.1, rw j.2 l.2)
    where
      go : (b : Bool) → b ≡ false → ◌≡◌ {A = Bool} (if b then not (pattern_form (form_at t i)) else not (eqb (times i (each t (λ l. names_of (form l)))) 1)) false → times i (each t (λ l. names_of (form l))) ≡ 1
      go true e f = no_true e
      go false e f = eqb-true (times i (each t (λ l. names_of (form l)))) 1 (not_false (eqb (times i (each t (λ l. names_of (form l)))) 1) f)
