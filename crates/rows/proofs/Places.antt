-- Naming places: the ways out of places and loose, and the loop that counts.
use mathlib.Core.Path.{◌≡◌, refl, sym, ap, ◌∙◌}
use mathlib.Core.List.{List, [], ◌∷◌, ◌++◌}
use mathlib.Core.Bool.{Bool, true, false, not}
use Prim.Native.Nat.{ℕ, suc, ◌+◌, ◌*◌, ◌/◌, ◌<◌, ◌≤◌}
use native.Mathlib.Omega.{arith}
use native.Mathlib.Numerals.{add-one}
use lib.Dec.{eqb, ltb}
use lib.ListN.{length, drop}
use lib.Seq.{drop-cons}
use borrow.Author.Tests.{eq-eqb, ne_eqb, lt-ltb, le-ltb, eqb-true, eqb-false}
use Rattle.std.specs.Prelude.{if◌then◌else◌}
use Rattle.meaning.specs.Basics.{each, All}
use Rattle.meaning.specs.Table.{Form, is_node_lem, is_edge, is_union, is_concatenation, is_conditioned, is_repetition, is_constant, is_property, is_and, is_or, is_not, is_bad}
use Rattle.meaning.specs.Table.{rows_of, no_row, form, form_at, fine, names_of, times, condition_form, pattern_row_lem, condition_row, fault13}
use Rattle.meaning.proofs.Logic.{and_l, and_r, no_false}
use Rattle.meaning.proofs.Rows.{pattern_below, condition_below}
use Rattle.meaning.specs.Table.{Row as RowOf}
use Rattle.rows.specs.Rows.{Reads, pattern_kind_lem}
use Rattle.rows.specs.Naming.{Once, Twice, Places, Named}
use Rattle.rows.specs.Faults.{Formed}
use Rattle.rows.specs.declared.row.Row.{Row}
use Rattle.rows.proofs.Rows.{rows_length, in_rows}
use Rattle.rows.proofs.Listed.{kind_of, parts_of, names_by_kind}
use Rattle.rows.proofs.Misuse.{form_read, fine_pattern}

module _ (i p : ℕ) where
  pub once_yes : i ≡ p → Once i p 1
  unfolding times
  once_yes e = record { is = rw (eq-eqb i p e); small = omega arith }

  pub once_no : (i ≡ p → ⊥) → Once i p 0
  unfolding times
  once_no n = record { is = rw (ne_eqb i p n); small = omega arith }

  module _ (q : ℕ) where
    pub twice_sum : (a b : ℕ) → Once i p a → Once i q b → Twice i p q (a + b)
    unfolding times
    twice_sum a b g h = record { is = rw (g.is, h.is) (sums (eqb i p) (eqb i q)); small = omega (arith, g.small, h.small) }
      where
        sums : (x y : Bool) → (if x then 1 else 0) + (if y then 1 else 0) ≡ (if x then suc (if y then 1 else 0) else (if y then 1 else 0))
        sums true true = refl
        sums true false = refl
        sums false y = omega arith

module _ (k p q : ℕ) where
  parts_two : 5 ≤ k → k < 8 → parts_of k p q ≡ p ∷ q ∷ []
  unfolding parts_of
  parts_two x y = rw (le-ltb k 5 x, lt-ltb k 8 y)

  parts_one : k ≡ 8 → parts_of k p q ≡ p ∷ []
  unfolding parts_of
  parts_one e = rw e

  parts_two_c : 18 ≤ k → k < 20 → parts_of k p q ≡ p ∷ q ∷ []
  unfolding parts_of
  parts_two_c x y = rw (le-ltb k 5 (omega arith), le-ltb k 8 (omega arith), ne_eqb k 8 (λ e. absurd (omega arith)), le-ltb k 18 x, lt-ltb k 20 y)

  parts_one_c : k ≡ 20 → parts_of k p q ≡ p ∷ []
  unfolding parts_of
  parts_one_c e = rw e

names_lower : (rows : List RowOf) (i : ℕ) (f : Form) → fine rows i f ≡ true → All (λ x. x < i) (names_of f)
unfolding fine names_of
names_lower rows i (is_node_lem x l) e = tt
names_lower rows i (is_edge d x l) e = tt
names_lower rows i (is_union p q) e = (pattern_below rows i p (and_l _ _ e), (pattern_below rows i q (and_r (pattern_row_lem rows i p) _ e), tt))
names_lower rows i (is_concatenation p q) e = (pattern_below rows i p (and_l _ _ e), (pattern_below rows i q (and_r (pattern_row_lem rows i p) _ e), tt))
names_lower rows i (is_conditioned p q) e = (pattern_below rows i p (and_l _ _ e), (condition_below rows i q (and_r (pattern_row_lem rows i p) _ e), tt))
names_lower rows i (is_repetition p r s) e = (pattern_below rows i p (and_l _ _ e), tt)
names_lower rows i (is_constant x k c) e = tt
names_lower rows i (is_property x k y l) e = tt
names_lower rows i (is_and p q) e = (condition_below rows i p (and_l _ _ e), (condition_below rows i q (and_r (condition_row rows i p) _ e), tt))
names_lower rows i (is_or p q) e = (condition_below rows i p (and_l _ _ e), (condition_below rows i q (and_r (condition_row rows i p) _ e), tt))
names_lower rows i (is_not p) e = (condition_below rows i p e, tt)
names_lower rows i is_bad e = tt

-- the rows that a condition names are conditions
names_conditions : (rows : List RowOf) (i : ℕ) (f : Form) → fine rows i f ≡ true → condition_form f ≡ true → All (λ x. condition_form (form_at rows x) ≡ true) (names_of f)
unfolding fine names_of condition_form condition_row
names_conditions rows i (is_node_lem x l) e c = tt
names_conditions rows i (is_edge d x l) e c = tt
names_conditions rows i (is_union p q) e c = no_false c
names_conditions rows i (is_concatenation p q) e c = no_false c
names_conditions rows i (is_conditioned p q) e c = no_false c
names_conditions rows i (is_repetition p r s) e c = no_false c
names_conditions rows i (is_constant x k y) e c = tt
names_conditions rows i (is_property x k y l) e c = tt
names_conditions rows i (is_and p q) e c = (and_r (ltb p i) _ (and_l (condition_row rows i p) _ e), (and_r (ltb q i) _ (and_r (condition_row rows i p) _ e), tt))
names_conditions rows i (is_or p q) e c = (and_r (ltb p i) _ (and_l (condition_row rows i p) _ e), (and_r (ltb q i) _ (and_r (condition_row rows i p) _ e), tt))
names_conditions rows i (is_not p) e c = (and_r (ltb p i) _ e, tt)
names_conditions rows i is_bad e c = tt

module _ (pattern : List ℕ) (j : ℕ) (r : Row) (d : Reads pattern j r) (f : Formed pattern) (l : j * 5 + 5 ≤ length pattern) where
  names_read : names_of (form_at (rows_of pattern) j) ≡ parts_of r.kind r.p r.q
  names_read =
      let e = form_read pattern j r d in
      ap names_of e ∙ names_by_kind (rows_of pattern) j (kind_of r.kind) r.p r.q r.r r.s (ap (fine (rows_of pattern) j) (sym e) ∙ f.ok j (in_rows pattern j l))

  -- the rows that a row of the table names are lower
  named_lower : All (λ x. x < j) (parts_of r.kind r.p r.q)
  named_lower = rw names_read at (names_lower (rows_of pattern) j (form_at (rows_of pattern) j) (f.ok j (in_rows pattern j l)))

  pub p_lower : 5 ≤ r.kind → r.kind < 9 → r.p < j
  unfolding parts_of
  p_lower x y = go (eqb r.kind 8) refl
    where
      go : (b : Bool) → eqb r.kind 8 ≡ b → r.p < j
      go true e = let z : r.kind ≡ 8 = eqb-true r.kind 8 e in (rw (parts_one r.kind r.p r.q z) at named_lower).0
      go false e = let z : r.kind ≡ 8 → ⊥ = eqb-false r.kind 8 e in (rw (parts_two r.kind r.p r.q x (omega arith)) at named_lower).0

  pub q_lower : 5 ≤ r.kind → r.kind < 8 → r.q < j
  q_lower x y = (rw (parts_two r.kind r.p r.q x y) at named_lower).1.0

  pub p_lower_c : 18 ≤ r.kind → r.kind < 21 → r.p < j
  p_lower_c x y = go (eqb r.kind 20) refl
    where
      go : (b : Bool) → eqb r.kind 20 ≡ b → r.p < j
      go true e = let z : r.kind ≡ 20 = eqb-true r.kind 20 e in (rw (parts_one_c r.kind r.p r.q z) at named_lower).0
      go false e = let z : r.kind ≡ 20 → ⊥ = eqb-false r.kind 20 e in (rw (parts_two_c r.kind r.p r.q x (omega arith)) at named_lower).0

  pub q_lower_c : 18 ≤ r.kind → r.kind < 20 → r.q < j
  q_lower_c x y = (rw (parts_two_c r.kind r.p r.q x y) at named_lower).1.0

  module _ (c : condition_form (form_at (rows_of pattern) j) ≡ true) where
    named_conditions : All (λ x. condition_form (form_at (rows_of pattern) x) ≡ true) (parts_of r.kind r.p r.q)
    named_conditions = rw names_read at (names_conditions (rows_of pattern) j (form_at (rows_of pattern) j) (f.ok j (in_rows pattern j l)) c)

    pub both_conditions : 18 ≤ r.kind → r.kind < 20 → (condition_form (form_at (rows_of pattern) r.p) ≡ true) × (condition_form (form_at (rows_of pattern) r.q) ≡ true)
    both_conditions x y = let h = rw (parts_two_c r.kind r.p r.q x y) at named_conditions in (h.0, h.1.0)

    pub one_is_condition : r.kind ≡ 20 → condition_form (form_at (rows_of pattern) r.p) ≡ true
    one_is_condition e = (rw (parts_one_c r.kind r.p r.q e) at named_conditions).0

module _ (pattern : List ℕ) (j i : ℕ) (r : Row) (d : Reads pattern j r) (f : Formed pattern) (l : j * 5 + 5 ≤ length pattern) where
  two : (a : ℕ) → parts_of r.kind r.p r.q ≡ r.p ∷ r.q ∷ [] → Twice i r.p r.q a → Places pattern j i a
  two a e h = record { is = h.is ∙ ap (times i) (sym (names_read pattern j r d f l ∙ e)); small = h.small }

  one : (a : ℕ) → parts_of r.kind r.p r.q ≡ r.p ∷ [] → Once i r.p a → Places pattern j i a
  one a e h = record { is = h.is ∙ ap (times i) (sym (names_read pattern j r d f l ∙ e)); small = omega (arith, h.small) }

  none : parts_of r.kind r.p r.q ≡ [] → Places pattern j i 0
  unfolding times
  none e = record { is = sym (ap (times i) (names_read pattern j r d f l ∙ e)); small = omega arith }

  pub two_patterns : (a : ℕ) → 5 ≤ r.kind → r.kind < 8 → Twice i r.p r.q a → Places pattern j i a
  two_patterns a x y = two a (parts_two r.kind r.p r.q x y)

  pub two_conditions : (a : ℕ) → 18 ≤ r.kind → r.kind < 20 → Twice i r.p r.q a → Places pattern j i a
  two_conditions a x y = two a (parts_two_c r.kind r.p r.q x y)

  pub one_pattern : (a : ℕ) → r.kind ≡ 8 → Once i r.p a → Places pattern j i a
  one_pattern a e = one a (parts_one r.kind r.p r.q e)

  pub one_condition : (a : ℕ) → r.kind ≡ 20 → Once i r.p a → Places pattern j i a
  one_condition a e = one a (parts_one_c r.kind r.p r.q e)

  pub none_low : r.kind < 5 → Places pattern j i 0
  unfolding parts_of
  none_low x = none (rw (lt-ltb r.kind 5 x))

  pub none_mid : 8 ≤ r.kind → (r.kind ≡ 8 → ⊥) → r.kind < 18 → Places pattern j i 0
  unfolding parts_of
  none_mid x n y = none (rw (le-ltb r.kind 5 (omega arith), le-ltb r.kind 8 x, ne_eqb r.kind 8 n, lt-ltb r.kind 18 y))

  pub none_high : 20 ≤ r.kind → (r.kind ≡ 20 → ⊥) → Places pattern j i 0
  unfolding parts_of
  none_high x n = none (rw (le-ltb r.kind 5 (omega arith), le-ltb r.kind 8 (omega arith), ne_eqb r.kind 8 (λ e. absurd (omega arith)), le-ltb r.kind 18 (omega arith), le-ltb r.kind 20 x, ne_eqb r.kind 20 n))

-- ------------------------------------------------------------------ the loop: what is counted and what is left make the whole
times_append : (i : ℕ) (a b : List ℕ) → times i (a ++ b) ≡ times i a + times i b
unfolding times
times_append i [] b = omega arith
times_append i (x ∷ a) b = go (eqb i x) (times_append i a b)
  where
    go : (c : Bool) → times i (a ++ b) ≡ times i a + times i b → (if c then suc (times i (a ++ b)) else times i (a ++ b)) ≡ (if c then suc (times i a) else times i a) + times i b
    go true e = omega (arith, e)
    go false e = e

abbrev names_in : List RowOf → List ℕ
names_in rows = each rows (λ l. names_of (form l))

-- the rows below j name row i at n places
pub record Counting (pattern : List ℕ) (i n j : ℕ) : Type 0 where
  pub upto : j ≤ length (rows_of pattern)
  pub small : n ≤ 2 * j
  pub is : times i (names_in (rows_of pattern)) ≡ n + times i (names_in (drop j (rows_of pattern)))

pub counting_none : (pattern : List ℕ) (i : ℕ) → Counting pattern i 0 0
counting_none pattern i = record { upto = omega arith; small = omega arith; is = omega arith }

pub counting_more : (pattern : List ℕ) (i n j m rows : ℕ) → rows ≡ length pattern / 5 → Counting pattern i n j → j < rows → Places pattern j i m → Counting pattern i (n + m) (j + 1)
unfolding each form_at
counting_more pattern i n j m rows q h l p =
    let b : j < length (rows_of pattern) = omega (arith, rows_length pattern) in
    let e : times i (names_in (drop j (rows_of pattern))) ≡ m + times i (names_in (drop (suc j) (rows_of pattern))) =
    ap (λ (x : List RowOf). times i (names_in x)) (drop-cons (rows_of pattern) j no_row b) ∙ times_append i (names_of (form_at (rows_of pattern) j)) (names_in (drop (suc j) (rows_of pattern))) ∙ ap (λ (x : ℕ). x + times i (names_in (drop (suc j) (rows_of pattern)))) (sym p.is) in
    record { upto = omega arith; small = omega (arith, h.small, p.small); is = rw add-one (omega (arith, h.is, e)) }

pub counting_all : (pattern : List ℕ) (i n j rows : ℕ) → rows ≡ length pattern / 5 → Counting pattern i n j → rows ≤ j → Named pattern i n
unfolding each times
counting_all pattern i n j rows q h l =
    let b : j ≡ length (rows_of pattern) = omega (arith, rows_length pattern, h.upto) in
    record { is = sym (h.is ∙ ap (λ (x : List RowOf). n + times i (names_in x)) (ap (λ (x : ℕ). drop x (rows_of pattern)) b ∙ drop_length (rows_of pattern)) ∙ add_none n) }
  where
    add_none : (n : ℕ) → n + 0 ≡ n
    add_none n = omega arith

    drop_length : (l : List RowOf) → drop (length l) l ≡ []
    drop_length [] = refl
    drop_length (x ∷ l) = drop_length l

-- ------------------------------------------------------------------ loose
pub loose_last : (pattern : List ℕ) (i : ℕ) (r : Row) (b : Bool) → i * 5 + 5 ≤ length pattern → Formed pattern → i + 1 ≡ length pattern / 5 → Reads pattern i r → b ≡ pattern_kind_lem r.kind → not b ≡ fault13 (rows_of pattern) i
unfolding fault13
loose_last pattern i r b l f e d q =
    let z : suc i ≡ length (rows_of pattern) = omega (arith, rows_length pattern) in
    ap not (q ∙ sym (fine_pattern pattern i r d (f.ok i (in_rows pattern i l)))) ∙ rw (eq-eqb (suc i) (length (rows_of pattern)) z)

pub loose_named : (pattern : List ℕ) (i n : ℕ) → (i + 1 ≡ length pattern / 5 → ⊥) → Named pattern i n → not (eqb n 1) ≡ fault13 (rows_of pattern) i
unfolding fault13
loose_named pattern i n e k =
    let z : suc i ≡ length (rows_of pattern) → ⊥ = λ w. e (omega (arith, rows_length pattern)) in
    ap (λ (x : ℕ). not (eqb x 1)) k.is ∙ rw (ne_eqb (suc i) (length (rows_of pattern)) z)
