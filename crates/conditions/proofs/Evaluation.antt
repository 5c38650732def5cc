-- The ways out of the evaluation of a condition row.
use Rattle.std.specs.declared.option.Option as maybe
use mathlib.Core.Path.{◌≡◌, ap, ap₂, sym, ◌∙◌}
use mathlib.Core.Bool.{◌&&◌, ◌||◌, not, true}
use mathlib.Core.List.{List}
use mathlib.Core.Option.{Option, some}
use Prim.Native.Nat.{ℕ}
use native.Mathlib.Omega.{arith}
use Rattle.matcher.specs.Conditions.{and_truths, equality_truths, not_truths, or_truths, property_at_lem, truths}
use Rattle.matcher.specs.Views.{View}
use Rattle.meaning.specs.Graph.{Element, Graph}
use Rattle.meaning.specs.Pattern.{Condition, and, equals_constant, equals_property, neg, or}
use Rattle.meaning.specs.Table.{as_condition, item_at, rows_of}
use Rattle.meaning.specs.Typing.{Found}
use Rattle.rows.specs.Faults.{Stands}
use Rattle.rows.specs.Rows.{Reads}
use Rattle.rows.specs.declared.row.Row.{Row}
use Rattle.rows.proofs.Items.{item_and, item_constant, item_neg, item_or, item_property}
use Rattle.compiled.specs.declared.ids.Element as code
use Rattle.conditions.specs.declared.bound.Bound.{Bound}
use Rattle.conditions.specs.declared.truth.Truths.{Truths}
use Rattle.conditions.specs.Bound.{binding_of, bound_of}
use Rattle.conditions.specs.Evaluates.{ConditionIs, Evaluates}
use Rattle.conditions.specs.Truths.{truths_of}
use Rattle.conditions.proofs.Connectives.{false_decides, true_decides}
use Rattle.conditions.proofs.ConditionRows.{and_first, and_second, condition_kind, constant_variable, first_variable_law, lower_item, not_row, or_first, or_second, second_variable}

module _ (G : Graph) (pattern : List ℕ) (row : ℕ) (b : Bound) (r : Row) (d : Reads pattern row r) (st : Stands pattern row) (a : Truths) where
  pub constant : r.kind ≡ 16 → (k : maybe.Option code.Element) → binding_of k ≡ bound_of b r.p → truths_of a ≡ equality_truths (property_at_lem G (binding_of k) r.q) (some (some r.r))
      → Evaluates G pattern row b a
  unfolding truths
  constant e k ek h = record {
    is = λ θ i f v s.
        let (low, high) = constant_variable pattern row r d st e in
        let z : equals_constant r.p r.q r.r ≡ θ = cc (item_constant pattern row r d st.formed st.room e) in
        h ∙ ap (λ (x : Option Element). equality_truths (property_at_lem G x r.q) (some (some r.r))) (ek ∙ s.is r.p low high) ∙ ap (truths G f v) z;
  }

  pub properties : r.kind ≡ 17 → (k l : maybe.Option code.Element) → binding_of k ≡ bound_of b r.p → binding_of l ≡ bound_of b r.r
      → truths_of a ≡ equality_truths (property_at_lem G (binding_of k) r.q) (property_at_lem G (binding_of l) r.s) → Evaluates G pattern row b a
  unfolding truths
  properties e k l ek el h = record {
    is = λ θ i f v s.
        let (low, high) = first_variable_law pattern row r d st e in
        let (low₂, high₂) = second_variable pattern row r d st e in
        let z : equals_property r.p r.q r.r r.s ≡ θ = cc (item_property pattern row r d st.formed st.room e) in
        h ∙ ap₂ (λ (x y : Option Element). equality_truths (property_at_lem G x r.q) (property_at_lem G y r.s)) (ek ∙ s.is r.p low high) (el ∙ s.is r.r low₂ high₂)
        ∙ ap (truths G f v) z;
  }

  -- a connective by the conditions that it names
  abbrev condition_at : ℕ → Condition
  condition_at i = as_condition (item_at (rows_of pattern) i)

  and_of : r.kind ≡ 18 → (θ : Condition) → ConditionIs pattern θ row → (f : ℕ → Found) (v : View)
      → and_truths (truths G f v (condition_at r.p)) (truths G f v (condition_at r.q)) ≡ truths G f v θ
  unfolding truths
  and_of e θ i f v = let z : and (condition_at r.p) (condition_at r.q) ≡ θ = cc (item_and pattern row r d st.formed st.room e) in ap (truths G f v) z

  or_of : r.kind ≡ 19 → (θ : Condition) → ConditionIs pattern θ row → (f : ℕ → Found) (v : View)
      → or_truths (truths G f v (condition_at r.p)) (truths G f v (condition_at r.q)) ≡ truths G f v θ
  unfolding truths
  or_of e θ i f v = let z : or (condition_at r.p) (condition_at r.q) ≡ θ = cc (item_or pattern row r d st.formed st.room e) in ap (truths G f v) z

  module _ (x : Truths) (ex : Evaluates G pattern r.p b x) where
    pub negation : r.kind ≡ 20 → truths_of a ≡ not_truths (truths_of x) → Evaluates G pattern row b a
    unfolding truths
    negation e h = record {
      is = λ θ i f v s.
          let z : neg (as_condition (item_at (rows_of pattern) r.p)) ≡ θ = cc (item_neg pattern row r d st.formed st.room e) in
          h ∙ ap not_truths (ex.is _ (lower_item pattern row r.p st (not_row pattern row r d st e)) f v s) ∙ ap (truths G f v) z;
    }

    module _ (y : Truths) (ey : Evaluates G pattern r.q b y) where
      pub conjunction : r.kind ≡ 18 → truths_of a ≡ and_truths (truths_of x) (truths_of y) → Evaluates G pattern row b a
      conjunction e h = record {
        is = λ θ i f v s.
            let first = lower_item pattern row r.p st (and_first pattern row r d st e) in
            let second = lower_item pattern row r.q st (and_second pattern row r d st e) in
            h ∙ ap₂ and_truths (ex.is _ first f v s) (ey.is _ second f v s) ∙ and_of e θ i f v;
      }

      pub disjunction : r.kind ≡ 19 → truths_of a ≡ or_truths (truths_of x) (truths_of y) → Evaluates G pattern row b a
      disjunction e h = record {
        is = λ θ i f v s.
            let first = lower_item pattern row r.p st (or_first pattern row r d st e) in
            let second = lower_item pattern row r.q st (or_second pattern row r d st e) in
            h ∙ ap₂ or_truths (ex.is _ first f v s) (ey.is _ second f v s) ∙ or_of e θ i f v;
      }

  -- the right-hand part decides, whatever the left-hand part is (02, Q-4)
  module _ (ea : Evaluates G pattern r.q b a) where
    pub conjunction_refuted : r.kind ≡ 18 → (a.no && not (a.yes || a.neither)) ≡ true → Evaluates G pattern row b a
    conjunction_refuted e h = record {
      is = λ θ i f v s.
          let left = truths G f v (condition_at r.p) in
          let second = lower_item pattern row r.q st (and_second pattern row r d st e) in
          sym (false_decides left (truths_of a) h) ∙ ap (and_truths left) (ea.is _ second f v s) ∙ and_of e θ i f v;
    }

    pub disjunction_granted : r.kind ≡ 19 → (a.yes && not (a.no || a.neither)) ≡ true → Evaluates G pattern row b a
    disjunction_granted e h = record {
      is = λ θ i f v s.
          let left = truths G f v (condition_at r.p) in
          let second = lower_item pattern row r.q st (or_second pattern row r d st e) in
          sym (true_decides left (truths_of a) h) ∙ ap (or_truths left) (ea.is _ second f v s) ∙ or_of e θ i f v;
    }

  -- a row of another kind is no condition
  pub no_condition : (r.kind ≡ 16 → ⊥) → (r.kind ≡ 17 → ⊥) → (r.kind ≡ 18 → ⊥) → (r.kind ≡ 19 → ⊥) → (r.kind ≡ 20 → ⊥) → Evaluates G pattern row b a
  no_condition n₁ n₂ n₃ n₄ n₅ = record { is = λ θ i f v s. let (low, high) = condition_kind pattern row r d st θ i in absurd (omega arith) }
