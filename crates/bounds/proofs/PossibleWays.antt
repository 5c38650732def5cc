-- The numbers of edges that a row's matches can have, from those of the rows that it names: the ways through the code, by the row's kind.
use mathlib.Core.Path.{◌∙◌, ◌≡◌, ap, refl}
use mathlib.Core.List.{List, [], ◌∷◌, map}
use mathlib.Core.Bool.{Bool, true}
use mathlib.Core.Option.{Option, none}
use Prim.Native.Nat.{◌+◌, ◌<◌, ◌≤◌, ℕ}
use native.Mathlib.Omega.{arith}
use lib.ListN.{length}
use Rattle.bits.proofs.Laws.{at}
use Rattle.bits.specs.Sets.{only, set_of, unite}
use Rattle.matcher.proofs.Opened.{matcher_opened}
use Rattle.meaning.proofs.Logic.{either}
use Rattle.meaning.specs.Assignment.{Assignment, Factor, path_of_lem}
use Rattle.meaning.specs.Basics.{All}
use Rattle.meaning.specs.Graph.{Graph, Walk, len}
use Rattle.meaning.specs.Meaning.{Meaning, Product}
use Rattle.meaning.specs.Pattern.{Pattern, concatenation, conditioned, edge, node, repetition, union}
use Rattle.meaning.specs.Table.{as_condition, item_at, rows_of, unless}
use Rattle.rows.proofs.Items.{item_concatenation, item_conditioned, item_edge, item_repetition, item_union}
use Rattle.rows.specs.Faults.{Stands}
use Rattle.rows.specs.Rows.{Reads}
use Rattle.rows.specs.declared.row.Row.{Row}
use Rattle.search.proofs.PathWords.{len_join}
use Rattle.table.proofs.Descent.{shown}
use Rattle.table.specs.Variables.{pattern_at_lem}
use Rattle.bounds.specs.Rows.{Possible}
use Rattle.bounds.specs.Sums.{Repeated, SumOf, Sums}
use Rattle.bounds.proofs.RowLengths.{few_factors, high_node, low_node}
use Rattle.bounds.proofs.SumWays.{or_left, or_right}

-- the edges of matches one after another
factors_sum : (G : Graph) (π : Pattern) (S : ℕ → Bool) → ((p : Walk) (μ : Assignment) → Meaning G π p μ → len p < 256 → S (len p) ≡ true)
    → (fs : List Factor) (p : Walk) → All (λ f. Meaning G π f.0 f.1) fs → Product G (map path_of_lem fs) p → len p < 256 → SumOf S (length fs) (len p)
unfolding matcher_opened SumOf
factors_sum G π S h [] p m (u, b, q) l = ap len q
factors_sum G π S h (f ∷ fs) p m (q, pr, tg, pe) l =
    let e : len p ≡ len f.0 + len q = ap len pe ∙ len_join f.0 q in
    (len f.0, len q, h f.0 f.1 m.0 (omega arith), factors_sum G π S h fs q m.1 pr (omega arith), e)

module _ (pattern : List ℕ) (row : ℕ) (r : Row) (d : Reads pattern row r) (st : Stands pattern row) where
  possible_of : (π : Pattern) → pattern_at_lem pattern row ≡ π → (w : List ℕ) → ((G : Graph) (p : Walk) (μ : Assignment) → Meaning G π p μ → len p < 256 → set_of w (len p) ≡ true) → Possible pattern row w
  possible_of π e w h = record { is = λ G p μ m l. h G p μ (rw e at m) l }

  -- ---------------------------------------------------------------- leaves
  possible_node : (x l : Option ℕ) → pattern_at_lem pattern row ≡ node x l → (w : List ℕ) → set_of w ≡ only 256 0 → Possible pattern row w
  unfolding matcher_opened
  possible_node x l e w i = possible_of (node x l) e w (λ G p μ m k. let z : len p ≡ 0 = ap len m.path_is in rw z (at i 0 ∙ refl))

  pub possible_edge : (w : List ℕ) → 2 ≤ r.kind → r.kind < 5 → set_of w ≡ only 256 1 → Possible pattern row w
  unfolding matcher_opened
  possible_edge w x y i = let t = item_edge pattern row r d st.formed st.room x y in
      possible_of (edge t.0 (unless 0 r.p) (unless 0 r.q)) (shown pattern row _ t.1) w (λ G p μ m k. let z : len p ≡ 1 = ap len m.path_is in rw z (at i 1 ∙ refl))

  pub possible_low : (w : List ℕ) → r.kind < 2 → set_of w ≡ only 256 0 → Possible pattern row w
  possible_low w h i = let n = low_node pattern row r d st h in possible_node n.0 n.1 n.2 w i

  pub possible_high : (w : List ℕ) → 5 ≤ r.kind → (r.kind ≡ 5 → ⊥) → (r.kind ≡ 6 → ⊥) → (r.kind ≡ 7 → ⊥) → (r.kind ≡ 8 → ⊥) → set_of w ≡ only 256 0 → Possible pattern row w
  possible_high w l n₅ n₆ n₇ n₈ i = possible_node none none (high_node pattern row r d st (omega arith)) w i

  -- ---------------------------------------------------------------- rows that name rows
  pub possible_union : (a b w : List ℕ) → r.kind ≡ 5 → Possible pattern r.p a → Possible pattern r.q b → set_of w ≡ unite (set_of a) (set_of b) → Possible pattern row w
  unfolding matcher_opened
  possible_union a b w k f g u = possible_of (union (pattern_at_lem pattern r.p) (pattern_at_lem pattern r.q)) (shown pattern row _ (item_union pattern row r d st.formed st.room k)) w (λ G p μ m l.
      at u (len p) ∙ either m.either
      (λ n. or_left (set_of a (len p)) (set_of b (len p)) (f.is G p m.ν n l))
      (λ n. or_right (set_of a (len p)) (set_of b (len p)) (g.is G p m.ν n l)))

  pub possible_concatenation : (a b w : List ℕ) → r.kind ≡ 6 → Possible pattern r.p a → Possible pattern r.q b → Sums (set_of a) (set_of b) (set_of w) → Possible pattern row w
  unfolding matcher_opened
  possible_concatenation a b w k f g s = possible_of (concatenation (pattern_at_lem pattern r.p) (pattern_at_lem pattern r.q)) (shown pattern row _ (item_concatenation pattern row r d st.formed st.room k)) w (λ G p μ m l.
      let i : len p ≡ len m.p₁ + len m.p₂ = ap len m.path_is ∙ len_join m.p₁ m.p₂ in
      ap (set_of w) i ∙ s.is (len m.p₁) (len m.p₂) (f.is G m.p₁ m.μ₁ m.first (omega arith)) (g.is G m.p₂ m.μ₂ m.second (omega arith)) (omega arith))

  pub possible_conditioned : (w : List ℕ) → r.kind ≡ 7 → Possible pattern r.p w → Possible pattern row w
  unfolding matcher_opened
  possible_conditioned w k f = possible_of (conditioned (pattern_at_lem pattern r.p) (as_condition (item_at (rows_of pattern) r.q))) (shown pattern row _ (item_conditioned pattern row r d st.formed st.room k)) w (λ G p μ m l. f.is G p μ m.answer l)

  pub possible_repetition : (a w : List ℕ) → r.kind ≡ 8 → Possible pattern r.p a → Repeated (set_of a) r.r r.s (set_of w) → Possible pattern row w
  unfolding matcher_opened
  possible_repetition a w k f c = possible_of (repetition (pattern_at_lem pattern r.p) r.r (unless 65535 r.s)) (shown pattern row _ (item_repetition pattern row r d st.formed st.room k)) w (λ G p μ m l.
      c.is (length m.factors) (len p) m.at_least (λ h. few_factors (length m.factors) r.s h m.at_most_law)
      (factors_sum G (pattern_at_lem pattern r.p) (set_of a) (f.is G) m.factors p m.answers m.path_is l) l)
