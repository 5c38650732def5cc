-- 16 for the whole table: where 11 to 15 find nothing, it is refused exactly if its whole pattern is not well-typed (Definition 1).
use mathlib.Core.Path.{◌∙◌, ◌≡◌, ap, refl, sym}
use mathlib.Core.List.Memᴰ
use mathlib.Core.List.{List, [], ◌∷◌}
use mathlib.Core.Option.{Option, none, some}
use mathlib.Core.Bool.{Bool, false, true}
use mathlib.Core.Logic.{◌↔◌, ◌≢◌}
use Prim.Native.Nat.{◌+◌, ◌-◌, ◌<◌, ◌≤◌, suc, zero, ℕ}
use native.Mathlib.Omega.{arith}
use lib.Dec.{eqb, ltb}
use lib.ListN.{get_or, length}
use borrow.Author.Tests.{eqb-false, eqb-true}
use Rattle.meaning.proofs.Accepted.{WellFormed, passed, rows_fine, table_accepted}
use Rattle.meaning.proofs.Causes.{first_none, whole_none}
use Rattle.meaning.proofs.Logic.{and_l, and_r, either, no_false, no_none, some_inj}
use Rattle.meaning.proofs.Named.{named_by, names_below, one_case, pair_cases}
use Rattle.meaning.proofs.Opened.{opened}
use Rattle.meaning.proofs.Parts.{parts_typed}
use Rattle.meaning.proofs.Rows.{item_is}
use Rattle.meaning.proofs.Types.{well_typed_iff}
use Rattle.meaning.proofs.Untyped.{RowTyped, formed_fault, lowest_clear, refused_16, row_typed←}
use Rattle.meaning.specs.Basics.{◌∈◌, at_row, first_of, lowest, rowless}
use Rattle.meaning.specs.Pattern.{Condition, Pattern, concatenation, conditioned, repetition, union}
use Rattle.meaning.specs.Table.{Form, Item, Row, as_condition, as_pattern, bad_length, condition_form, condition_item_lem, condition_row, fault16, fine, form_at, is_and, is_bad, is_concatenation, is_conditioned, is_constant, is_edge, is_node_lem, is_not, is_or, is_property, is_repetition, is_union, item_at, lower, make, names_of, no_item, pattern_fault, pattern_item, pattern_of, pattern_row_lem, rows_of, table_fault, table_pattern, unless}
use Rattle.meaning.specs.Typing.{WellTyped}

no_condition : {A : Type 0} {θ : Condition} {π : Pattern} → condition_item_lem θ ≡ pattern_item π → A
unfolding opened
no_condition e = let z : ◌≡◌ {A = ℕ} 0 1 = cc in absurd (omega arith)

-- what a condition's form comes to is no pattern
condition_item : (g : ℕ → Item) (f : Form) → condition_form f ≡ true → (π : Pattern) → make g f ≡ pattern_item π → ⊥
unfolding opened
condition_item g (is_node_lem x l) e π q = no_false e
condition_item g (is_edge d x l) e π q = no_false e
condition_item g (is_union a b) e π q = no_false e
condition_item g (is_concatenation a b) e π q = no_false e
condition_item g (is_conditioned a b) e π q = no_false e
condition_item g (is_repetition a r s) e π q = no_false e
condition_item g (is_constant x k c) e π q = no_condition q
condition_item g (is_property x k y l) e π q = no_condition q
condition_item g (is_and a b) e π q = no_condition q
condition_item g (is_or a b) e π q = no_condition q
condition_item g (is_not a) e π q = no_condition q
condition_item g is_bad e π q = no_false e

module _ (t : List Row) where
  condition_typed : (j p i : ℕ) → condition_row t j p ≡ true → i ≡ p → RowTyped t i
  unfolding opened
  condition_typed j p i e h π q =
      let c : condition_form (form_at t p) ≡ true = and_r (ltb p j) (condition_form (form_at t p)) e in
      absurd (condition_item (λ k. get_or (lower t p) k no_item) (form_at t p) c π (ap (item_at t) (sym h) ∙ q))

  pattern_typed : (p i : ℕ) → WellTyped (as_pattern (item_at t p)) → i ≡ p → RowTyped t i
  unfolding opened
  pattern_typed p i w h π q =
      let z : as_pattern (item_at t p) ≡ π = ap (λ (k : ℕ). as_pattern (item_at t k)) (sym h) ∙ ap as_pattern q in
      rw z at w

  -- what a well-typed row names is well-typed
  named_typed : (j i : ℕ) (f : Form) → fine t j f ≡ true → i ∈ names_of f → ((ρ : Pattern) → make (item_at t) f ≡ pattern_item ρ → WellTyped ρ) → RowTyped t i
  unfolding opened
  named_typed j i (is_node_lem x l) e m w = absurd (Memᴰ.not-nil m)
  named_typed j i (is_edge d x l) e m w = absurd (Memᴰ.not-nil m)
  named_typed j i (is_union p q) e m w =
      let s = parts_typed (union (as_pattern (item_at t p)) (as_pattern (item_at t q))) (w _ refl) in
      either (pair_cases m) (pattern_typed p i s.0) (pattern_typed q i s.1)
  named_typed j i (is_concatenation p q) e m w =
      let s = parts_typed (concatenation (as_pattern (item_at t p)) (as_pattern (item_at t q))) (w _ refl) in
      either (pair_cases m) (pattern_typed p i s.0) (pattern_typed q i s.1)
  named_typed j i (is_conditioned p q) e m w =
      let s = parts_typed (conditioned (as_pattern (item_at t p)) (as_condition (item_at t q))) (w _ refl) in
      either (pair_cases m) (pattern_typed p i s) (condition_typed j q i (and_r (pattern_row_lem t j p) (condition_row t j q) e))
  named_typed j i (is_repetition p r s) e m w = pattern_typed p i (parts_typed (repetition (as_pattern (item_at t p)) r (unless 65535 s)) (w _ refl)) (one_case m)
  named_typed j i (is_constant x k c) e m w = absurd (Memᴰ.not-nil m)
  named_typed j i (is_property x k y l) e m w = absurd (Memᴰ.not-nil m)
  named_typed j i (is_and p q) e m w = either (pair_cases m) (condition_typed j p i (and_l (condition_row t j p) (condition_row t j q) e)) (condition_typed j q i (and_r (condition_row t j p) (condition_row t j q) e))
  named_typed j i (is_or p q) e m w = either (pair_cases m) (condition_typed j p i (and_l (condition_row t j p) (condition_row t j q) e)) (condition_typed j q i (and_r (condition_row t j p) (condition_row t j q) e))
  named_typed j i (is_not p) e m w = condition_typed j p i e (one_case m)
  named_typed j i is_bad e m w = absurd (Memᴰ.not-nil m)

  module _ (w : WellFormed t) where
    -- the whole well-typed, every row is: from the last down
    down : WellTyped (table_pattern t) → (n i : ℕ) → length t ≤ i + n → i < length t → RowTyped t i
    unfolding opened
    down whole zero i b h = absurd (omega arith)
    down whole (suc n) i b h = go (eqb (suc i) (length t)) refl (down whole n)
      where
        go : (c : Bool) → eqb (suc i) (length t) ≡ c → ((j : ℕ) → length t ≤ j + n → j < length t → RowTyped t j) → RowTyped t i
        go true e ih = let q : suc i ≡ length t = eqb-true (suc i) (length t) e in pattern_typed (length t - 1) i whole (omega arith)
        go false e ih =
            let q : suc i ≢ length t = eqb-false (suc i) (length t) e in
            let m = named_by t w.no_13 i (omega arith) in
            let j : ℕ = m.0 in
            let k : j < length t = m.1 in
            let f = rows_fine t w j k in
            let d : i < j = names_below t j i (form_at t j) f m.2 in
            named_typed j i (form_at t j) f m.2 (λ ρ r. ih j (omega arith) k ρ (item_is t j f ∙ r))

-- ------------------------------------------------------------------ accepted, and refused by 16
accepted→ : (t : List Row) → table_fault t ≡ none → WellTyped (table_pattern t)
unfolding opened
accepted→ [] e = λ x u. no_false u
accepted→ (r ∷ t) e = (well_typed_iff (table_pattern (r ∷ t))).1 (table_accepted (r ∷ t) (omega arith) e).no_clash

pub accepted_iff_well_typed : (t : List Row) → WellFormed t → (table_fault t ≡ none) ↔ WellTyped (table_pattern t)
unfolding opened
accepted_iff_well_typed t w = (accepted→ t, back)
  where
    back : WellTyped (table_pattern t) → table_fault t ≡ none
    back whole = formed_fault t w ∙ ap (at_row 16) (lowest_clear t (fault16 t) (λ i h. row_typed← t (rows_fine t w) i h (down t w whole (length t) i (omega arith) h)))

pub refused_16_whole : (t : List Row) → WellFormed t → ((i : ℕ) × (table_fault t ≡ some (16, i))) ↔ (WellTyped (table_pattern t) → ⊥)
unfolding opened
refused_16_whole t w = (there, back (lowest (length t) 0 (fault16 t)) (formed_fault t w))
  where
    there : (i : ℕ) × (table_fault t ≡ some (16, i)) → WellTyped (table_pattern t) → ⊥
    there r whole = no_none (sym ((accepted_iff_well_typed t w).1 whole) ∙ r.1)

    back : (o : Option ℕ) → table_fault t ≡ at_row 16 o → (WellTyped (table_pattern t) → ⊥) → (i : ℕ) × (table_fault t ≡ some (16, i))
    back none e n = absurd (n (accepted→ t e))
    back (some i) e n = (i, e)

-- ------------------------------------------------------------------ over the table's words
-- no cause of 11 to 15
pub record WellFormedWords (pattern : List ℕ) : Type 0 where
  pub no_11 : bad_length pattern ≡ false
  pub rows : WellFormed (rows_of pattern)

pub accepted_words : (pattern : List ℕ) → (pattern_fault pattern ≡ none) ↔ (WellFormedWords pattern × WellTyped (pattern_of pattern))
unfolding opened
accepted_words pattern = (there, back)
  where
    there : pattern_fault pattern ≡ none → WellFormedWords pattern × WellTyped (pattern_of pattern)
    there e =
        let p = first_none (rowless 11 (bad_length pattern)) (table_fault (rows_of pattern)) e in
        (record { no_11 = whole_none 11 (bad_length pattern) p.0; rows = (passed (rows_of pattern) p.1).0 }, accepted→ (rows_of pattern) p.1)

    back : WellFormedWords pattern × WellTyped (pattern_of pattern) → pattern_fault pattern ≡ none
    back h = rw h.0.no_11 ((accepted_iff_well_typed (rows_of pattern) h.0.rows).1 h.1)

pub refused_16_words : (pattern : List ℕ) → ((i : ℕ) × (pattern_fault pattern ≡ some (16, i))) ↔ (WellFormedWords pattern × (WellTyped (pattern_of pattern) → ⊥))
unfolding opened
refused_16_words pattern = (there, back)
  where
    there : (i : ℕ) × (pattern_fault pattern ≡ some (16, i)) → WellFormedWords pattern × (WellTyped (pattern_of pattern) → ⊥)
    there r = go (bad_length pattern) refl r.1
      where
        go : (b : Bool) → bad_length pattern ≡ b → first_of (rowless 11 b) (table_fault (rows_of pattern)) ≡ some (16, r.0) → WellFormedWords pattern × (WellTyped (pattern_of pattern) → ⊥)
        go true q e = absurd (omega (arith, ap (λ (x : ℕ × ℕ). x.0) (some_inj e)))
        go false q e = let w = ((refused_16 (rows_of pattern) r.0).0 e).well_formed in (record { no_11 = q; rows = w }, (refused_16_whole (rows_of pattern) w).0 (r.0, e))

    back : WellFormedWords pattern × (WellTyped (pattern_of pattern) → ⊥) → (i : ℕ) × (pattern_fault pattern ≡ some (16, i))
    back h = let r = (refused_16_whole (rows_of pattern) h.0.rows).1 h.1 in (r.0, rw h.0.no_11 r.1)
