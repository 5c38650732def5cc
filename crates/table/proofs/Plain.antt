-- The ways out of type_of, fits and clashes.
use mathlib.Core.Path.{◌≡◌, refl, sym, ap, ◌∙◌}
use mathlib.Core.List.{List}
use mathlib.Core.Bool.{Bool, true, false, ◌&&◌, ◌||◌}
use Prim.Native.Nat.{ℕ, ◌+◌, ◌*◌, ◌<◌, ◌≤◌}
use native.Mathlib.Omega.{arith}
use lib.Dec.{eqb}
use lib.ListN.{length}
use borrow.Author.Tests.{eq-eqb, ne_eqb, eqb-true, eqb-false}
use Rattle.meaning.proofs.Eight.{from, from_next}
use Rattle.meaning.specs.Basics.{eight}
use Rattle.meaning.specs.Pattern.{Pattern, Condition, named}
use Rattle.meaning.specs.Typing.{Node, Edge, Found, absent, clash, typed, single, fits, named_ty}
use Rattle.meaning.specs.Table.{condition_item_lem, rows_of, item_at, as_pattern, as_condition, any_of, is_clash_lem}
use Rattle.meaning.proofs.Logic.{no_true}
use Rattle.rows.specs.Rows.{Reads, condition_kind_lem}
use Rattle.rows.specs.Faults.{Formed, Stands}
use Rattle.table.specs.Ready.{Typable}
use Rattle.typecode.specs.Codes.{ty_code, code_of, Unites, Joins, Repeats, Singles, Names}
use Rattle.table.specs.Typing.{plain_of, plain_at, TypeIs, FitsAt, Clashes}
use Rattle.rows.specs.declared.row.Row.{Row}
use Rattle.rows.proofs.Rows.{in_rows}
use Rattle.rows.proofs.Sorts.{condition_low, condition_high}
use Rattle.rows.proofs.Misuse.{fine_condition}
use Rattle.rows.proofs.Places.{both_conditions, one_is_condition}
use Rattle.rows.proofs.Items.{item_node, item_edge, item_union, item_concatenation, item_conditioned, item_repetition, item_zero, item_other, item_constant, item_property, item_and, item_or, item_neg}
use Rattle.typecode.proofs.Codes.{ty_digit}
use Rattle.table.proofs.Bounds.{plain_small}

-- ------------------------------------------------------------------ type_of
module _ (pattern : List ℕ) (row x : ℕ) (r : Row) (d : Reads pattern row r) (s : Typable pattern row) where
  f : Formed pattern
  f = s.stands.formed

  l : row * 5 + 5 ≤ length pattern
  l = s.stands.room

  -- a number that is right is small
  right : (n : ℕ) → n ≡ code_of (plain_at pattern row x) → TypeIs pattern row x n
  right n e = record { is = e; small = omega (arith, e, plain_small (as_pattern (item_at (rows_of pattern) row)) x (s.shallow.ok row (in_rows pattern row l))) }

  by : (π : Pattern) → as_pattern (item_at (rows_of pattern) row) ≡ π → (n : ℕ) → n ≡ code_of (plain_of π x) → TypeIs pattern row x n
  by π e n q = right n (q ∙ sym (ap (λ (π : Pattern). code_of (plain_of π x)) e))

  pub type_node : (n : ℕ) → r.kind ≡ 1 → Names r.p x 1 n → TypeIs pattern row x n
  unfolding plain_of as_pattern ty_code
  type_node n k h = by _ (ap as_pattern (item_node pattern row r d f l k)) n (h.is Node refl)

  pub type_edge : (n : ℕ) → 1 ≤ r.kind → (r.kind ≡ 1 → ⊥) → r.kind < 5 → Names r.p x 2 n → TypeIs pattern row x n
  unfolding plain_of as_pattern ty_code
  type_edge n a z b h = by _ (ap as_pattern (item_edge pattern row r d f l (omega arith) b).1) n (h.is Edge refl)

  pub type_union : (a b n : ℕ) → r.kind ≡ 5 → TypeIs pattern r.p x a → TypeIs pattern r.q x b → Unites a b n → TypeIs pattern row x n
  unfolding plain_of as_pattern
  type_union a b n k h g u = by _ (ap as_pattern (item_union pattern row r d f l k)) n (u.is (plain_at pattern r.p x) (plain_at pattern r.q x) h.is g.is)

  pub type_joined : (a b n : ℕ) → r.kind ≡ 6 → TypeIs pattern r.p x a → TypeIs pattern r.q x b → Joins a b n → TypeIs pattern row x n
  unfolding plain_of as_pattern
  type_joined a b n k h g u = by _ (ap as_pattern (item_concatenation pattern row r d f l k)) n (u.is (plain_at pattern r.p x) (plain_at pattern r.q x) h.is g.is)

  pub type_conditioned : (a : ℕ) → r.kind ≡ 7 → TypeIs pattern r.p x a → TypeIs pattern row x a
  unfolding plain_of as_pattern
  type_conditioned a k h = by _ (ap as_pattern (item_conditioned pattern row r d f l k)) a h.is

  pub type_repeated : (a n : ℕ) → r.kind ≡ 8 → TypeIs pattern r.p x a → Repeats a n → TypeIs pattern row x n
  unfolding plain_of as_pattern
  type_repeated a n k h u = by _ (ap as_pattern (item_repetition pattern row r d f l k)) n (u.is (plain_at pattern r.p x) h.is)

  pub type_low : r.kind < 1 → TypeIs pattern row x 0
  unfolding plain_of code_of named_ty named
  type_low a = by _ (item_zero pattern row r d f l (omega arith)) 0 refl

  pub type_high : 5 ≤ r.kind → (r.kind ≡ 5 → ⊥) → (r.kind ≡ 6 → ⊥) → (r.kind ≡ 7 → ⊥) → (r.kind ≡ 8 → ⊥) → TypeIs pattern row x 0
  unfolding plain_of code_of named_ty named
  type_high a n₅ n₆ n₇ n₈ = by _ (item_other pattern row r d f l (omega arith)) 0 refl

-- ------------------------------------------------------------------ fits
module _ (pattern : List ℕ) (part row : ℕ) (r : Row) (d : Reads pattern row r) (s : Stands pattern row) where
  sf : Formed pattern
  sf = s.formed

  sl : row * 5 + 5 ≤ length pattern
  sl = s.room

  seen : (θ : Condition) → item_at (rows_of pattern) row ≡ condition_item_lem θ → fits (plain_at pattern part) (as_condition (item_at (rows_of pattern) row)) ≡ fits (plain_at pattern part) θ
  unfolding as_condition
  seen θ e = ap (λ i. fits (plain_at pattern part) (as_condition i)) e

  pub fits_constant : (a : ℕ) (b : Bool) → r.kind ≡ 16 → TypeIs pattern part r.p a → Singles a b → FitsAt pattern part row b
  unfolding fits
  fits_constant a b k h u = record { is = λ c. u.is (plain_at pattern part r.p) h.is ∙ sym (seen _ (item_constant pattern row r d sf sl k)) }

  pub fits_both : (a a₂ : ℕ) (b b₂ : Bool) → r.kind ≡ 17 → TypeIs pattern part r.p a → Singles a b → b ≡ true → TypeIs pattern part r.r a₂ → Singles a₂ b₂ → FitsAt pattern part row b₂
  unfolding fits
  fits_both a a₂ b b₂ k h u y g v = record { is = λ c. v.is (plain_at pattern part r.r) g.is ∙ sym (seen _ (item_property pattern row r d sf sl k) ∙ ap (λ (z : Bool). z && single (plain_at pattern part r.r)) (sym (u.is (plain_at pattern part r.p) h.is) ∙ y)) }

  pub fits_not_both : (a : ℕ) (b : Bool) → r.kind ≡ 17 → TypeIs pattern part r.p a → Singles a b → b ≡ false → FitsAt pattern part row false
  unfolding fits
  fits_not_both a b k h u n = record { is = λ c. sym (seen _ (item_property pattern row r d sf sl k) ∙ ap (λ (z : Bool). z && single (plain_at pattern part r.r)) (sym (u.is (plain_at pattern part r.p) h.is) ∙ n)) }

  -- and, or: both parts have to fit
  two_fit : 18 ≤ r.kind → r.kind < 20 → fits (plain_at pattern part) (as_condition (item_at (rows_of pattern) row)) ≡ (fits (plain_at pattern part) (as_condition (item_at (rows_of pattern) r.p)) && fits (plain_at pattern part) (as_condition (item_at (rows_of pattern) r.q)))
  unfolding fits
  two_fit a b = go (eqb r.kind 18) refl
    where
      go : (z : Bool) → eqb r.kind 18 ≡ z → fits (plain_at pattern part) (as_condition (item_at (rows_of pattern) row)) ≡ (fits (plain_at pattern part) (as_condition (item_at (rows_of pattern) r.p)) && fits (plain_at pattern part) (as_condition (item_at (rows_of pattern) r.q)))
      go true e = seen _ (item_and pattern row r d sf sl (eqb-true r.kind 18 e))
      go false e = let n : r.kind ≡ 18 → ⊥ = eqb-false r.kind 18 e in seen _ (item_or pattern row r d sf sl (omega arith))

  pub fits_two : (a b : Bool) → 16 ≤ r.kind → (r.kind ≡ 16 → ⊥) → (r.kind ≡ 17 → ⊥) → r.kind < 20 → FitsAt pattern part r.p a → a ≡ true → FitsAt pattern part r.q b → FitsAt pattern part row b
  fits_two a b x₀ n m y h e g = record {
    is = λ c.
        let x : 18 ≤ r.kind = omega arith in
        let k = both_conditions pattern row r d sf sl c x y in
        g.is k.1 ∙ sym (two_fit x y ∙ ap (λ (z : Bool). z && fits (plain_at pattern part) (as_condition (item_at (rows_of pattern) r.q))) (sym (h.is k.0) ∙ e));
  }

  pub fits_not_two : (a : Bool) → 16 ≤ r.kind → (r.kind ≡ 16 → ⊥) → (r.kind ≡ 17 → ⊥) → r.kind < 20 → FitsAt pattern part r.p a → a ≡ false → FitsAt pattern part row false
  fits_not_two a x₀ n m y h e = record {
    is = λ c.
        let x : 18 ≤ r.kind = omega arith in
        let k = both_conditions pattern row r d sf sl c x y in
        sym (two_fit x y ∙ ap (λ (z : Bool). z && fits (plain_at pattern part) (as_condition (item_at (rows_of pattern) r.q))) (sym (h.is k.0) ∙ e));
  }

  pub fits_neg : (a : Bool) → r.kind ≡ 20 → FitsAt pattern part r.p a → FitsAt pattern part row a
  unfolding fits
  fits_neg a k h = record { is = λ c. h.is (one_is_condition pattern row r d sf sl c k) ∙ sym (seen _ (item_neg pattern row r d sf sl k)) }

  no_condition : condition_kind_lem r.kind ≡ false → FitsAt pattern part row false
  no_condition e = record { is = λ c. no_true (sym c ∙ fine_condition pattern row r d (sf.ok row (in_rows pattern row sl)) ∙ e) }

  pub fits_low : r.kind < 16 → FitsAt pattern part row false
  fits_low a = no_condition (condition_low r.kind a)

  pub fits_high : 20 ≤ r.kind → (r.kind ≡ 20 → ⊥) → FitsAt pattern part row false
  fits_high a n = no_condition (condition_high r.kind (omega arith))

-- ------------------------------------------------------------------ clashes
pub clash_is : (a : ℕ) (g : Found) → a ≡ code_of g → eqb a 7 ≡ is_clash_lem g
unfolding code_of is_clash_lem
clash_is a absent e = rw e
clash_is a clash e = rw e
clash_is a (typed τ) e = ne_eqb a 7 (λ q. absurd (omega (arith, ty_digit τ)))

abbrev clashing : List ℕ → ℕ → ℕ → Bool
clashing t row x = is_clash_lem (plain_at t row x)

-- some variable from x on clashes, if any does
pub record Seeking (pattern : List ℕ) (row x : ℕ) : Type 0 where
  pub low : 1 ≤ x
  pub high : x ≤ 9
  pub is : any_of eight (clashing pattern row) ≡ any_of (from x) (clashing pattern row)

pub seeking_none : (pattern : List ℕ) (row : ℕ) → Seeking pattern row 1
unfolding eight
seeking_none pattern row = record { low = omega arith; high = omega arith; is = refl }

module _ (pattern : List ℕ) (row x : ℕ) (h : Seeking pattern row x) where
  at : x < 9 → (b : Bool) → clashing pattern row x ≡ b → any_of eight (clashing pattern row) ≡ (b || any_of (from (x + 1)) (clashing pattern row))
  unfolding any_of
  at l b e = h.is ∙ ap (λ (xs : List ℕ). any_of xs (clashing pattern row)) (from_next x h.low l) ∙ ap (λ (c : Bool). c || any_of (from (x + 1)) (clashing pattern row)) e

  pub seeking_more : (a : ℕ) → x < 9 → TypeIs pattern row x a → (a ≡ 7 → ⊥) → Seeking pattern row (x + 1)
  seeking_more a l k n = record { low = omega arith; high = omega arith; is = at l false (sym (clash_is a (plain_at pattern row x) k.is) ∙ ne_eqb a 7 n) }

  pub seeking_found : (a : ℕ) → x < 9 → TypeIs pattern row x a → a ≡ 7 → Clashes pattern row true
  seeking_found a l k e = record { is = sym (at l true (sym (clash_is a (plain_at pattern row x) k.is) ∙ eq-eqb a 7 e)) }

  pub seeking_all : 9 ≤ x → Clashes pattern row false
  unfolding any_of
  seeking_all l = let e : x ≡ 9 = omega (arith, h.high) in record { is = sym (h.is ∙ ap (λ (y : ℕ). any_of (from y) (clashing pattern row)) e) }
