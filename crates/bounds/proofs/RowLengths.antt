-- The numbers of edges of a row's matches from those of the rows that it names: the ways through the code, by the row's kind.
use mathlib.Core.Path.{◌∙◌, ◌≡◌, ap}
use mathlib.Core.List.{List, map}
use mathlib.Core.Bool.{Bool, false, true}
use mathlib.Core.Option.{Option, none, some}
use Prim.Native.Nat.{◌*◌, ◌+◌, ◌<◌, ◌≤◌, ℕ}
use native.Mathlib.Nat.{mul-le-mul_right}
use native.Mathlib.Omega.{arith}
use lib.Dec.{eqb}
use lib.ListN.{length}
use borrow.Author.Tests.{ne_eqb}
use Rattle.bits.proofs.Cases.{by_eqb}
use Rattle.matcher.proofs.Lengths.{product_between}
use Rattle.matcher.proofs.Opened.{matcher_opened}
use Rattle.meaning.proofs.Logic.{all_map, either, no_true}
use Rattle.meaning.specs.Assignment.{Assignment, Factor, path_of_lem}
use Rattle.std.specs.Prelude.{if◌then◌else◌}
use Rattle.meaning.specs.Basics.{All, AtMost}
use Rattle.meaning.specs.Graph.{Graph, Walk, len}
use Rattle.meaning.specs.Meaning.{Meaning, Product}
use Rattle.meaning.specs.Pattern.{Pattern, concatenation, conditioned, edge, node, repetition, union}
use Rattle.meaning.specs.Table.{as_condition, item_at, rows_of, unless}
use Rattle.rows.proofs.Items.{item_concatenation, item_conditioned, item_edge, item_node, item_other, item_repetition, item_union, item_zero}
use Rattle.rows.specs.Faults.{Stands}
use Rattle.rows.specs.Rows.{Reads}
use Rattle.rows.specs.declared.row.Row.{Row}
use Rattle.search.proofs.PathWords.{len_join}
use Rattle.table.proofs.Descent.{shown}
use Rattle.table.specs.Variables.{pattern_at_lem}
use Rattle.bounds.specs.Numbers.{Capped, Greater, Smaller}
use Rattle.bounds.specs.Rows.{Fewest, Most, MostRepeated}

-- ------------------------------------------------------------------ numbers
pub product_fits : (n a : ℕ) → n ≤ 65535 → a ≤ 65535 → n * a < 18446744073709551616
product_fits n a h k = let m : n * a ≤ 65535 * a = mul-le-mul_right a h in omega arith

pub repeated_is : (n a x : ℕ) → n ≤ 65535 → a ≤ 65535 → (n ≡ 65535 → ⊥) → (a ≡ 65535 → ⊥) → Capped (n * a) x → MostRepeated n a x
repeated_is n a x i j h k c = record { small = c.small; count = λ l. omega arith; each = λ l. omega arith; is = λ l. omega (arith, c.is l) }

-- ------------------------------------------------------------------ matches one after another
module _ (G : Graph) (π : Pattern) (a : ℕ) where
  product_most : ((p : Walk) (μ : Assignment) → Meaning G π p μ → len p ≤ a) → (fs : List Factor) (p : Walk) → All (λ f. Meaning G π f.0 f.1) fs → Product G (map path_of_lem fs) p → len p ≤ length fs * a
  unfolding matcher_opened
  product_most h fs p m pr = (product_between G 0 (some a) fs p (all_map (λ f k. (omega arith, h f.0 f.1 k)) fs m) pr).1

  product_least : ((p : Walk) (μ : Assignment) → Meaning G π p μ → a ≤ len p) → (fs : List Factor) (p : Walk) → All (λ f. Meaning G π f.0 f.1) fs → Product G (map path_of_lem fs) p → length fs * a ≤ len p
  product_least h fs p m pr = (product_between G a none fs p (all_map (λ f k. (h f.0 f.1 k, tt)) fs m) pr).0

-- no more than s factors, where s is a bound
pub few_factors : (c s : ℕ) → s < 65535 → AtMost c (unless 65535 s) → c ≤ s
unfolding unless
few_factors c s l h = go (eqb s 65535) (ne_eqb s 65535 (λ e. omega arith)) h
  where
    go : (b : Bool) → b ≡ false → AtMost c (if b then none else some s) → c ≤ s
    go true e h = no_true e
    go false e h = h

module _ (pattern : List ℕ) (row : ℕ) (r : Row) (d : Reads pattern row r) (st : Stands pattern row) where
  most_of : (π : Pattern) → pattern_at_lem pattern row ≡ π → (x : ℕ) → x ≤ 65535 → (x < 65535 → (G : Graph) (p : Walk) (μ : Assignment) → Meaning G π p μ → len p ≤ x) → Most pattern row x
  most_of π e x l h = record { small = l; is = λ k G p μ m. h k G p μ (rw e at m) }

  fewest_of : (π : Pattern) → pattern_at_lem pattern row ≡ π → (x : ℕ) → x ≤ 65535 → ((G : Graph) (p : Walk) (μ : Assignment) → Meaning G π p μ → x ≤ len p) → Fewest pattern row x
  fewest_of π e x l h = record { small = l; is = λ G p μ m. h G p μ (rw e at m) }

  -- ---------------------------------------------------------------- leaves: a row of no pattern kind stands for a node without a name
  most_node : (x l : Option ℕ) → pattern_at_lem pattern row ≡ node x l → Most pattern row 0
  unfolding matcher_opened
  most_node x l e = most_of (node x l) e 0 (omega arith) (λ k G p μ m. omega (arith, ap len m.path_is))

  fewest_node : (x l : Option ℕ) → pattern_at_lem pattern row ≡ node x l → Fewest pattern row 0
  fewest_node x l e = fewest_of (node x l) e 0 (omega arith) (λ G p μ m. omega arith)

  pub low_node : r.kind < 2 → (x : Option ℕ) × (l : Option ℕ) × (pattern_at_lem pattern row ≡ node x l)
  low_node h = by_eqb r.kind 0
      (λ e. (none, none, item_zero pattern row r d st.formed st.room e))
      (λ n. (unless 0 r.p, unless 0 r.q, shown pattern row _ (item_node pattern row r d st.formed st.room (omega arith))))

  pub high_node : 9 ≤ r.kind → pattern_at_lem pattern row ≡ node none none
  high_node h = item_other pattern row r d st.formed st.room h

  pub most_edge : 2 ≤ r.kind → r.kind < 5 → Most pattern row 1
  unfolding matcher_opened
  most_edge x y = let i = item_edge pattern row r d st.formed st.room x y in
      most_of (edge i.0 (unless 0 r.p) (unless 0 r.q)) (shown pattern row _ i.1) 1 (omega arith) (λ k G p μ m. omega (arith, ap len m.path_is))

  pub fewest_edge : 2 ≤ r.kind → r.kind < 5 → Fewest pattern row 1
  unfolding matcher_opened
  fewest_edge x y = let i = item_edge pattern row r d st.formed st.room x y in
      fewest_of (edge i.0 (unless 0 r.p) (unless 0 r.q)) (shown pattern row _ i.1) 1 (omega arith) (λ G p μ m. omega (arith, ap len m.path_is))

  pub most_low : r.kind < 2 → Most pattern row 0
  most_low h = let n = low_node h in most_node n.0 n.1 n.2

  pub fewest_low : r.kind < 2 → Fewest pattern row 0
  fewest_low h = let n = low_node h in fewest_node n.0 n.1 n.2

  pub most_high : 5 ≤ r.kind → (r.kind ≡ 5 → ⊥) → (r.kind ≡ 6 → ⊥) → (r.kind ≡ 7 → ⊥) → (r.kind ≡ 8 → ⊥) → Most pattern row 0
  most_high l n₅ n₆ n₇ n₈ = most_node none none (high_node (omega arith))

  pub fewest_high : 5 ≤ r.kind → (r.kind ≡ 5 → ⊥) → (r.kind ≡ 6 → ⊥) → (r.kind ≡ 7 → ⊥) → (r.kind ≡ 8 → ⊥) → Fewest pattern row 0
  fewest_high l n₅ n₆ n₇ n₈ = fewest_node none none (high_node (omega arith))

  -- ---------------------------------------------------------------- union
  pub most_union : (a b x : ℕ) → r.kind ≡ 5 → Most pattern r.p a → Most pattern r.q b → Greater a b x → Most pattern row x
  unfolding matcher_opened
  most_union a b x k f g c = most_of (union (pattern_at_lem pattern r.p) (pattern_at_lem pattern r.q)) (shown pattern row _ (item_union pattern row r d st.formed st.room k)) x c.small (λ l G p μ m.
      either m.either
      (λ n. omega (arith, c.first, f.is (omega (arith, c.first)) G p m.ν n))
      (λ n. omega (arith, c.second, g.is (omega (arith, c.second)) G p m.ν n)))

  pub fewest_union : (a b x : ℕ) → r.kind ≡ 5 → Fewest pattern r.p a → Fewest pattern r.q b → Smaller a b x → Fewest pattern row x
  unfolding matcher_opened
  fewest_union a b x k f g c = fewest_of (union (pattern_at_lem pattern r.p) (pattern_at_lem pattern r.q)) (shown pattern row _ (item_union pattern row r d st.formed st.room k)) x c.small (λ G p μ m.
      either m.either
      (λ n. omega (arith, c.first, f.is G p m.ν n))
      (λ n. omega (arith, c.second, g.is G p m.ν n)))

  -- ---------------------------------------------------------------- concatenation
  pub most_concatenation : (a b x : ℕ) → r.kind ≡ 6 → Most pattern r.p a → Most pattern r.q b → Capped (a + b) x → Most pattern row x
  unfolding matcher_opened
  most_concatenation a b x k f g c = most_of (concatenation (pattern_at_lem pattern r.p) (pattern_at_lem pattern r.q)) (shown pattern row _ (item_concatenation pattern row r d st.formed st.room k)) x c.small (λ l G p μ m.
      let e : x ≡ a + b = c.is l in
      let i : len p ≡ len m.p₁ + len m.p₂ = ap len m.path_is ∙ len_join m.p₁ m.p₂ in
      let u : len m.p₁ ≤ a = f.is (omega arith) G m.p₁ m.μ₁ m.first in
      let v : len m.p₂ ≤ b = g.is (omega arith) G m.p₂ m.μ₂ m.second in
      omega arith)

  pub fewest_concatenation : (a b x : ℕ) → r.kind ≡ 6 → Fewest pattern r.p a → Fewest pattern r.q b → Capped (a + b) x → Fewest pattern row x
  unfolding matcher_opened
  fewest_concatenation a b x k f g c = fewest_of (concatenation (pattern_at_lem pattern r.p) (pattern_at_lem pattern r.q)) (shown pattern row _ (item_concatenation pattern row r d st.formed st.room k)) x c.small (λ G p μ m.
      let e : x ≤ a + b = c.low in
      let i : len p ≡ len m.p₁ + len m.p₂ = ap len m.path_is ∙ len_join m.p₁ m.p₂ in
      let u : a ≤ len m.p₁ = f.is G m.p₁ m.μ₁ m.first in
      let v : b ≤ len m.p₂ = g.is G m.p₂ m.μ₂ m.second in
      omega arith)

  -- ---------------------------------------------------------------- condition
  pub most_conditioned : (x : ℕ) → r.kind ≡ 7 → Most pattern r.p x → Most pattern row x
  unfolding matcher_opened
  most_conditioned x k f = most_of (conditioned (pattern_at_lem pattern r.p) (as_condition (item_at (rows_of pattern) r.q))) (shown pattern row _ (item_conditioned pattern row r d st.formed st.room k)) x f.small (λ l G p μ m. f.is l G p μ m.answer)

  pub fewest_conditioned : (x : ℕ) → r.kind ≡ 7 → Fewest pattern r.p x → Fewest pattern row x
  unfolding matcher_opened
  fewest_conditioned x k f = fewest_of (conditioned (pattern_at_lem pattern r.p) (as_condition (item_at (rows_of pattern) r.q))) (shown pattern row _ (item_conditioned pattern row r d st.formed st.room k)) x f.small (λ G p μ m. f.is G p μ m.answer)

  -- ---------------------------------------------------------------- repetition
  pub most_repetition : (a x : ℕ) → r.kind ≡ 8 → Most pattern r.p a → MostRepeated r.s a x → Most pattern row x
  unfolding matcher_opened
  most_repetition a x k f c = most_of (repetition (pattern_at_lem pattern r.p) r.r (unless 65535 r.s)) (shown pattern row _ (item_repetition pattern row r d st.formed st.room k)) x c.small (λ l G p μ m.
      let u : len p ≤ length m.factors * a = product_most G (pattern_at_lem pattern r.p) a (f.is (c.each l) G) m.factors p m.answers m.path_is in
      let v : length m.factors * a ≤ r.s * a = mul-le-mul_right a (few_factors (length m.factors) r.s (c.count l) m.at_most_law) in
      omega (arith, c.is l))

  pub fewest_repetition : (a x : ℕ) → r.kind ≡ 8 → Fewest pattern r.p a → Capped (r.r * a) x → Fewest pattern row x
  unfolding matcher_opened
  fewest_repetition a x k f c = fewest_of (repetition (pattern_at_lem pattern r.p) r.r (unless 65535 r.s)) (shown pattern row _ (item_repetition pattern row r d st.formed st.room k)) x c.small (λ G p μ m.
      let u : length m.factors * a ≤ len p = product_least G (pattern_at_lem pattern r.p) a (f.is G) m.factors p m.answers m.path_is in
      let v : r.r * a ≤ length m.factors * a = mul-le-mul_right a m.at_least in
      omega (arith, c.low))
