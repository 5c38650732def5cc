-- What a condition row of a table with no malformed row is: its variables are variables, and the rows that it names are lower condition rows.
use mathlib.Core.Path.{◌≡◌, refl, sym, ap, ◌∙◌}
use mathlib.Core.List.{List}
use mathlib.Core.Bool.{Bool, true, false, ◌&&◌}
use Prim.Native.Nat.{ℕ, ◌<◌, ◌≤◌}
use native.Mathlib.Omega.{arith}
use lib.Dec.{eqb, leb, ltb}
use borrow.Author.Tests.{leb-true}
use Rattle.meaning.specs.Table.{Form, Item, as_condition, condition_item_lem, condition_form, condition_row, fine, form, form_at, is_and, is_bad, is_concatenation, is_conditioned, is_constant, is_edge, is_node_lem, is_not, is_or, is_property, is_repetition, is_union, is_variable_lem, item_at, make, no_item, pattern_item, rows_of, if_zero}
use Rattle.meaning.specs.Table.{Row as RowOf}
use Rattle.meaning.specs.Pattern.{Condition}
use Rattle.meaning.proofs.Logic.{and_l, and_r, no_false}
use Rattle.meaning.proofs.Rows.{condition_below, item_is}
use Rattle.rows.specs.Faults.{Stands}
use Rattle.rows.specs.Rows.{Reads, condition_kind_lem}
use Rattle.rows.specs.declared.row.Row.{Row}
use Rattle.rows.proofs.Listed.{five, used}
use Rattle.rows.proofs.Misuse.{fine_condition, form_read}
use Rattle.rows.proofs.Rows.{in_rows}

-- ------------------------------------------------------------------ items that are conditions
made_condition : (g : ℕ → Item) (f : Form) → condition_form f ≡ true → make g f ≡ condition_item_lem (as_condition (make g f))
unfolding condition_form make as_condition
made_condition g (is_node_lem x l) e = no_false e
made_condition g (is_edge d x l) e = no_false e
made_condition g (is_union p q) e = no_false e
made_condition g (is_concatenation p q) e = no_false e
made_condition g (is_conditioned p q) e = no_false e
made_condition g (is_repetition p r s) e = no_false e
made_condition g (is_constant x k c) e = refl
made_condition g (is_property x k y l) e = refl
made_condition g (is_and p q) e = refl
made_condition g (is_or p q) e = refl
made_condition g (is_not p) e = refl
made_condition g is_bad e = no_false e

is_condition_lem : Item → Bool
is_condition_lem (pattern_item π) = false
is_condition_lem (condition_item_lem θ) = true
is_condition_lem no_item = false

made_by : (g : ℕ → Item) (f : Form) → is_condition_lem (make g f) ≡ condition_form f
unfolding condition_form make is_condition_lem
made_by g (is_node_lem x l) = refl
made_by g (is_edge d x l) = refl
made_by g (is_union p q) = refl
made_by g (is_concatenation p q) = refl
made_by g (is_conditioned p q) = refl
made_by g (is_repetition p r s) = refl
made_by g (is_constant x k c) = refl
made_by g (is_property x k y l) = refl
made_by g (is_and p q) = refl
made_by g (is_or p q) = refl
made_by g (is_not p) = refl
made_by g is_bad = refl

module _ (t : List RowOf) (i : ℕ) (e : fine t i (form_at t i) ≡ true) where
  pub condition_item : condition_form (form_at t i) ≡ true → item_at t i ≡ condition_item_lem (as_condition (item_at t i))
  condition_item c = item_is t i e ∙ made_condition (item_at t) (form_at t i) c ∙ ap (λ (x : Item). condition_item_lem (as_condition x)) (sym (item_is t i e))

  pub item_condition : (θ : Condition) → item_at t i ≡ condition_item_lem θ → condition_form (form_at t i) ≡ true
  unfolding is_condition_lem
  item_condition θ h = sym (made_by (item_at t) (form_at t i)) ∙ ap is_condition_lem (sym (item_is t i e) ∙ h)

-- ------------------------------------------------------------------ a row that was read
variable_in : (x : ℕ) → is_variable_lem x ≡ true → (1 ≤ x) × (x < 9)
unfolding is_variable_lem
variable_in x e =
    let a : 1 ≤ x = leb-true 1 x (and_l (leb 1 x) (leb x 8) e) in
    let b : x ≤ 8 = leb-true x 8 (and_r (leb 1 x) (leb x 8) e) in
    (a, omega arith)

-- a lower row that is a condition
module _ (pattern : List ℕ) (row i : ℕ) (st : Stands pattern row) (c : condition_row (rows_of pattern) row i ≡ true) where
  pub lower_falls : (m : ℕ) → row ≡ m → i < m
  lower_falls m e = omega (arith, condition_below (rows_of pattern) row i c)

  pub lower_stands : Stands pattern i
  lower_stands = record { room = omega (arith, st.room, condition_below (rows_of pattern) row i c); formed = st.formed }

  pub lower_item : item_at (rows_of pattern) i ≡ condition_item_lem (as_condition (item_at (rows_of pattern) i))
  unfolding condition_row
  lower_item = condition_item (rows_of pattern) i (st.formed.ok i (in_rows pattern i lower_stands.room)) (and_r (ltb i row) (condition_form (form_at (rows_of pattern) i)) c)

module _ (pattern : List ℕ) (row : ℕ) (r : Row) (d : Reads pattern row r) (st : Stands pattern row) where
  ok : fine (rows_of pattern) row (form_at (rows_of pattern) row) ≡ true
  ok = st.formed.ok row (in_rows pattern row st.room)

  by_kind : (k : ℕ) → r.kind ≡ k → (b : Bool) (g : Form) → form (five k r.p r.q r.r r.s) ≡ if_zero b g → fine (rows_of pattern) row g ≡ true
  by_kind k e b g q =
      let h : form_at (rows_of pattern) row ≡ if_zero b g = form_read pattern row r d ∙ ap (λ (n : ℕ). form (five n r.p r.q r.r r.s)) e ∙ q in
      let o : fine (rows_of pattern) row (if_zero b g) ≡ true = ap (fine (rows_of pattern) row) (sym h) ∙ ok in
      ap (fine (rows_of pattern) row) (sym (used (rows_of pattern) row b g o)) ∙ o

  -- the variables of an equality
  pub constant_variable : r.kind ≡ 16 → (1 ≤ r.p) × (r.p < 9)
  unfolding form fine
  constant_variable e = variable_in r.p (by_kind 16 e (eqb r.s 0) (is_constant r.p r.q r.r) refl)

  both_variables : r.kind ≡ 17 → (is_variable_lem r.p && is_variable_lem r.r) ≡ true
  unfolding form fine if_zero
  both_variables e = by_kind 17 e true (is_property r.p r.q r.r r.s) refl

  pub first_variable_law : r.kind ≡ 17 → (1 ≤ r.p) × (r.p < 9)
  first_variable_law e = variable_in r.p (and_l (is_variable_lem r.p) (is_variable_lem r.r) (both_variables e))

  pub second_variable : r.kind ≡ 17 → (1 ≤ r.r) × (r.r < 9)
  second_variable e = variable_in r.r (and_r (is_variable_lem r.p) (is_variable_lem r.r) (both_variables e))

  pub constant_slot : r.kind ≡ 16 → r.p < 9
  constant_slot e = (constant_variable e).1

  pub first_slot : r.kind ≡ 17 → r.p < 9
  first_slot e = (first_variable_law e).1

  pub second_slot : r.kind ≡ 17 → r.r < 9
  second_slot e = (second_variable e).1

  -- the rows that a connective names
  and_rows : r.kind ≡ 18 → (condition_row (rows_of pattern) row r.p && condition_row (rows_of pattern) row r.q) ≡ true
  unfolding form fine
  and_rows e = by_kind 18 e (eqb r.r 0 && eqb r.s 0) (is_and r.p r.q) refl

  or_rows : r.kind ≡ 19 → (condition_row (rows_of pattern) row r.p && condition_row (rows_of pattern) row r.q) ≡ true
  unfolding form fine
  or_rows e = by_kind 19 e (eqb r.r 0 && eqb r.s 0) (is_or r.p r.q) refl

  pub and_first : r.kind ≡ 18 → condition_row (rows_of pattern) row r.p ≡ true
  and_first e = and_l (condition_row (rows_of pattern) row r.p) (condition_row (rows_of pattern) row r.q) (and_rows e)

  pub and_second : r.kind ≡ 18 → condition_row (rows_of pattern) row r.q ≡ true
  and_second e = and_r (condition_row (rows_of pattern) row r.p) (condition_row (rows_of pattern) row r.q) (and_rows e)

  pub or_first : r.kind ≡ 19 → condition_row (rows_of pattern) row r.p ≡ true
  or_first e = and_l (condition_row (rows_of pattern) row r.p) (condition_row (rows_of pattern) row r.q) (or_rows e)

  pub or_second : r.kind ≡ 19 → condition_row (rows_of pattern) row r.q ≡ true
  or_second e = and_r (condition_row (rows_of pattern) row r.p) (condition_row (rows_of pattern) row r.q) (or_rows e)

  pub not_row : r.kind ≡ 20 → condition_row (rows_of pattern) row r.p ≡ true
  unfolding form fine
  not_row e = by_kind 20 e (eqb r.q 0 && (eqb r.r 0 && eqb r.s 0)) (is_not r.p) refl

  -- a row that is a condition has a kind from 16 to 20
  pub condition_kind : (θ : Condition) → item_at (rows_of pattern) row ≡ condition_item_lem θ → (16 ≤ r.kind) × (r.kind ≤ 20)
  unfolding condition_kind_lem
  condition_kind θ h =
      let e : condition_kind_lem r.kind ≡ true = sym (fine_condition pattern row r d ok) ∙ item_condition (rows_of pattern) row ok θ h in
      (leb-true 16 r.kind (and_l (leb 16 r.kind) (leb r.kind 20) e), leb-true r.kind 20 (and_r (leb 16 r.kind) (leb r.kind 20) e))
