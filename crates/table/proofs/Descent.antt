-- Down the table: what a recursive call asks, and the ways out of the functions of 14 and 15.
use mathlib.Core.Path.{◌≡◌, refl, sym, ap, ap₂, ◌∙◌}
use mathlib.Core.List.{List}
use mathlib.Core.Bool.{Bool, true, false, ◌&&◌, ◌||◌}
use Prim.Native.Nat.{ℕ, ◌+◌, ◌*◌, ◌<◌, ◌≤◌}
use native.Mathlib.Omega.{arith}
use lib.Dec.{eqb, leb}
use lib.ListN.{length}
use borrow.Author.Tests.{le-leb, lt-leb, eqb-true, eqb-false}
use Rattle.std.specs.Prelude.{if◌then◌else◌}
use Rattle.meaning.specs.Basics.{max}
use Rattle.meaning.specs.Pattern.{Pattern, edgeless, nesting}
use Rattle.meaning.specs.Table.{pattern_item, rows_of, item_at, as_pattern, on_pattern, repeats, two_deep, fault14, fault15}
use Rattle.rows.specs.Rows.{Reads}
use Rattle.rows.specs.Faults.{Formed, Stands}
use Rattle.table.specs.Ready.{Typable}
use Rattle.table.specs.Repetition.{Edgeless, Depth}
use Rattle.rows.specs.declared.row.Row.{Row}
use Rattle.rows.proofs.Places.{p_lower, q_lower, p_lower_c, q_lower_c}
use Rattle.rows.proofs.Items.{item_node, item_edge, item_union, item_concatenation, item_conditioned, item_repetition, item_zero, item_other, item_not_repeated}
use Rattle.table.specs.Variables.{pattern_at_lem}

-- ------------------------------------------------------------------ a named row is lower, and in the table
module _ {pattern : List ℕ} {row : ℕ} {r : Row} (d : Reads pattern row r) (s : Stands pattern row) where
  pub p_stands : 5 ≤ r.kind → r.kind < 9 → Stands pattern r.p
  p_stands x y = record { room = omega (arith, s.room, p_lower pattern row r d s.formed s.room x y); formed = s.formed }

  pub p_falls : {n : ℕ} → row ≡ n → 5 ≤ r.kind → r.kind < 9 → (r.p < n) × Stands pattern r.p
  p_falls e x y = (omega (arith, p_lower pattern row r d s.formed s.room x y), p_stands x y)

  pub q_stands : 5 ≤ r.kind → r.kind < 8 → Stands pattern r.q
  q_stands x y = record { room = omega (arith, s.room, q_lower pattern row r d s.formed s.room x y); formed = s.formed }

  pub q_falls : {n : ℕ} → row ≡ n → 5 ≤ r.kind → r.kind < 8 → (r.q < n) × Stands pattern r.q
  q_falls e x y = (omega (arith, q_lower pattern row r d s.formed s.room x y), q_stands x y)

  pub p_stands_c : 18 ≤ r.kind → r.kind < 21 → Stands pattern r.p
  p_stands_c x y = record { room = omega (arith, s.room, p_lower_c pattern row r d s.formed s.room x y); formed = s.formed }

  pub p_falls_c : {n : ℕ} → row ≡ n → 18 ≤ r.kind → r.kind < 21 → (r.p < n) × Stands pattern r.p
  p_falls_c e x y = (omega (arith, p_lower_c pattern row r d s.formed s.room x y), p_stands_c x y)

  pub q_stands_c : 18 ≤ r.kind → r.kind < 20 → Stands pattern r.q
  q_stands_c x y = record { room = omega (arith, s.room, q_lower_c pattern row r d s.formed s.room x y); formed = s.formed }

  pub q_falls_c : {n : ℕ} → row ≡ n → 18 ≤ r.kind → r.kind < 20 → (r.q < n) × Stands pattern r.q
  q_falls_c e x y = (omega (arith, q_lower_c pattern row r d s.formed s.room x y), q_stands_c x y)

-- the same for a table that is ready to be typed
module _ {pattern : List ℕ} {row : ℕ} {r : Row} (d : Reads pattern row r) (s : Typable pattern row) where
  pub p_typable : 5 ≤ r.kind → r.kind < 9 → Typable pattern r.p
  p_typable x y = record { stands = p_stands d s.stands x y; shallow = s.shallow }

  pub p_types : {n : ℕ} → row ≡ n → 5 ≤ r.kind → r.kind < 9 → (r.p < n) × Typable pattern r.p
  p_types e x y = ((p_falls d s.stands e x y).0, p_typable x y)

  pub q_types : {n : ℕ} → row ≡ n → 5 ≤ r.kind → r.kind < 8 → (r.q < n) × Typable pattern r.q
  q_types e x y = ((q_falls d s.stands e x y).0, record { stands = q_stands d s.stands x y; shallow = s.shallow })

-- ------------------------------------------------------------------ edgeless
-- the pattern of a row that reads as one
pub shown : (pattern : List ℕ) (row : ℕ) (π : Pattern) → item_at (rows_of pattern) row ≡ pattern_item π → pattern_at_lem pattern row ≡ π
unfolding as_pattern
shown pattern row π e = ap as_pattern e

module _ (pattern : List ℕ) (row : ℕ) (r : Row) (d : Reads pattern row r) (s : Stands pattern row) where
  f : Formed pattern
  f = s.formed

  l : row * 5 + 5 ≤ length pattern
  l = s.room

  pub ed_edge : 2 ≤ r.kind → r.kind < 5 → Edgeless pattern row false
  unfolding edgeless
  ed_edge x y = let e = item_edge pattern row r d f l x y in record { is = sym (ap edgeless (shown pattern row _ e.1)) }

  pub ed_union_yes : (a : Bool) → r.kind ≡ 5 → Edgeless pattern r.p a → a ≡ true → Edgeless pattern row true
  unfolding edgeless
  ed_union_yes a k h y = record { is = sym (ap edgeless (shown pattern row _ (item_union pattern row r d f l k)) ∙ ap (λ (b : Bool). b || edgeless (pattern_at_lem pattern r.q)) (sym h.is ∙ y)) }

  pub ed_union_no : (a b : Bool) → r.kind ≡ 5 → Edgeless pattern r.p a → a ≡ false → Edgeless pattern r.q b → Edgeless pattern row b
  unfolding edgeless
  ed_union_no a b k h n g = record { is = g.is ∙ sym (ap edgeless (shown pattern row _ (item_union pattern row r d f l k)) ∙ ap (λ (b : Bool). b || edgeless (pattern_at_lem pattern r.q)) (sym h.is ∙ n)) }

  pub ed_both : (a b : Bool) → r.kind ≡ 6 → Edgeless pattern r.p a → a ≡ true → Edgeless pattern r.q b → Edgeless pattern row b
  unfolding edgeless
  ed_both a b k h y g = record { is = g.is ∙ sym (ap edgeless (shown pattern row _ (item_concatenation pattern row r d f l k)) ∙ ap (λ (b : Bool). b && edgeless (pattern_at_lem pattern r.q)) (sym h.is ∙ y)) }

  pub ed_not_both : (a : Bool) → r.kind ≡ 6 → Edgeless pattern r.p a → a ≡ false → Edgeless pattern row false
  unfolding edgeless
  ed_not_both a k h n = record { is = sym (ap edgeless (shown pattern row _ (item_concatenation pattern row r d f l k)) ∙ ap (λ (b : Bool). b && edgeless (pattern_at_lem pattern r.q)) (sym h.is ∙ n)) }

  pub ed_conditioned : (a : Bool) → r.kind ≡ 7 → Edgeless pattern r.p a → Edgeless pattern row a
  unfolding edgeless
  ed_conditioned a k h = record { is = h.is ∙ sym (ap edgeless (shown pattern row _ (item_conditioned pattern row r d f l k))) }

  pub ed_repetition : r.kind ≡ 8 → Edgeless pattern row (eqb r.r 0)
  unfolding edgeless
  ed_repetition k = record { is = sym (ap edgeless (shown pattern row _ (item_repetition pattern row r d f l k))) }

  -- kind 1 is a node; kind 0 is of no row here
  pub ed_low : r.kind < 2 → Edgeless pattern row true
  unfolding edgeless
  ed_low x = go (eqb r.kind 0) refl
    where
      go : (b : Bool) → eqb r.kind 0 ≡ b → Edgeless pattern row true
      go true e = record { is = sym (ap edgeless (item_zero pattern row r d f l (eqb-true r.kind 0 e))) }
      go false e = let n : r.kind ≡ 0 → ⊥ = eqb-false r.kind 0 e in record { is = sym (ap edgeless (shown pattern row _ (item_node pattern row r d f l (omega arith)))) }

  pub ed_high : 5 ≤ r.kind → (r.kind ≡ 5 → ⊥) → (r.kind ≡ 6 → ⊥) → (r.kind ≡ 7 → ⊥) → (r.kind ≡ 8 → ⊥) → Edgeless pattern row true
  unfolding edgeless
  ed_high x a b c e = record { is = sym (ap edgeless (item_other pattern row r d f l (omega arith))) }

  pub fourteen_yes : (a : Bool) → r.kind ≡ 8 → Edgeless pattern r.p a → a ≡ fault14 (rows_of pattern) row
  unfolding fault14 on_pattern repeats
  fourteen_yes a k h = h.is ∙ sym (ap (on_pattern (repeats edgeless)) (item_repetition pattern row r d f l k))

  pub fourteen_no : (r.kind ≡ 8 → ⊥) → false ≡ fault14 (rows_of pattern) row
  unfolding fault14
  fourteen_no n = sym (item_not_repeated pattern row r d f l edgeless n)

  -- ------------------------------------------------------------------ depth
  pub deep_two : (a b m : ℕ) → 5 ≤ r.kind → r.kind < 7 → Depth pattern r.p a → Depth pattern r.q b → m ≡ max a b → Depth pattern row m
  unfolding nesting max
  deep_two a b m x y h g e =
      let p = p_lower pattern row r d f l x (omega arith) in
      let q = q_lower pattern row r d f l x (omega arith) in
      record { is = e ∙ ap₂ max h.is g.is ∙ sym (which (eqb r.kind 5) refl); small = rw e (most (leb a b) (omega (arith, h.small, p)) (omega (arith, g.small, q))) }
    where
      most : (c : Bool) → a ≤ row → b ≤ row → (if c then b else a) ≤ row
      most true u v = v
      most false u v = u

      which : (c : Bool) → eqb r.kind 5 ≡ c → nesting (pattern_at_lem pattern row) ≡ max (nesting (pattern_at_lem pattern r.p)) (nesting (pattern_at_lem pattern r.q))
      which true e = ap nesting (shown pattern row _ (item_union pattern row r d f l (eqb-true r.kind 5 e)))
      which false e = let n : r.kind ≡ 5 → ⊥ = eqb-false r.kind 5 e in ap nesting (shown pattern row _ (item_concatenation pattern row r d f l (omega arith)))

  pub deep_conditioned : (a : ℕ) → r.kind ≡ 7 → Depth pattern r.p a → Depth pattern row a
  unfolding nesting
  deep_conditioned a k h = record { is = h.is ∙ sym (ap nesting (shown pattern row _ (item_conditioned pattern row r d f l k))); small = omega (arith, h.small, p_lower pattern row r d f l (omega arith) (omega arith)) }

  pub deep_repetition : (a : ℕ) → r.kind ≡ 8 → Depth pattern r.p a → Depth pattern row (1 + a)
  unfolding nesting
  deep_repetition a k h = record { is = rw (shown pattern row _ (item_repetition pattern row r d f l k)) (omega (arith, h.is)); small = omega (arith, h.small, p_lower pattern row r d f l (omega arith) (omega arith)) }

  pub deep_low : r.kind < 5 → Depth pattern row 0
  unfolding nesting
  deep_low x = go (eqb r.kind 0) (eqb r.kind 1) refl refl
    where
      go : (a b : Bool) → eqb r.kind 0 ≡ a → eqb r.kind 1 ≡ b → Depth pattern row 0
      go true b e₀ e₁ = record { is = sym (ap nesting (item_zero pattern row r d f l (eqb-true r.kind 0 e₀))); small = omega arith }
      go false true e₀ e₁ = record { is = sym (ap nesting (shown pattern row _ (item_node pattern row r d f l (eqb-true r.kind 1 e₁)))); small = omega arith }
      go false false e₀ e₁ =
          let n₀ : r.kind ≡ 0 → ⊥ = eqb-false r.kind 0 e₀ in
          let n₁ : r.kind ≡ 1 → ⊥ = eqb-false r.kind 1 e₁ in
          let e = item_edge pattern row r d f l (omega arith) x in
          record { is = sym (ap nesting (shown pattern row _ e.1)); small = omega arith }

  pub deep_high : 7 ≤ r.kind → (r.kind ≡ 7 → ⊥) → (r.kind ≡ 8 → ⊥) → Depth pattern row 0
  unfolding nesting
  deep_high x a b = record { is = sym (ap nesting (item_other pattern row r d f l (omega arith))); small = omega arith }

  pub fifteen_yes : (a : ℕ) → r.kind ≡ 8 → Depth pattern r.p a → leb 2 a ≡ fault15 (rows_of pattern) row
  unfolding fault15 on_pattern repeats two_deep
  fifteen_yes a k h = ap (leb 2) h.is ∙ sym (ap (on_pattern (repeats two_deep)) (item_repetition pattern row r d f l k))

  pub fifteen_no : (r.kind ≡ 8 → ⊥) → false ≡ fault15 (rows_of pattern) row
  unfolding fault15
  fifteen_no n = sym (item_not_repeated pattern row r d f l two_deep n)

pub greater_b : (a b : ℕ) → a ≤ b → b ≡ max a b
unfolding max
greater_b a b h = rw (le-leb a b h)

pub greater_a : (a b : ℕ) → b < a → a ≡ max a b
unfolding max
greater_a a b h = rw (lt-leb a b h)
