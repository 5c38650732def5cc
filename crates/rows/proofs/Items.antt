-- What a row of a table with no malformed row comes to, by its kind and numbers.
use mathlib.Core.Path.{◌≡◌, refl, sym, ap, ◌∙◌}
use mathlib.Core.List.{List}
use mathlib.Core.Option.{none}
use mathlib.Core.Bool.{Bool, true, false, ◌&&◌}
use Prim.Native.Nat.{ℕ, ◌+◌, ◌*◌, ◌<◌, ◌≤◌}
use native.Mathlib.Omega.{arith}
use lib.Dec.{eqb}
use lib.ListN.{length}
use borrow.Author.Tests.{eqb-true, eqb-false}
use Rattle.meaning.specs.Graph.{Direction, forward, backward, undirected}
use Rattle.meaning.specs.Pattern.{Pattern, node, edge, union, concatenation, conditioned, repetition, equals_constant, equals_property, and, or, neg}
use Rattle.meaning.specs.Table.{Form, pattern_item, condition_item_lem, rows_of, form, form_at, fine, make, item_at, if_zero, unless, as_pattern, as_condition, on_pattern, repeats, is_node_lem, is_edge, is_union, is_concatenation, is_conditioned, is_repetition, is_constant, is_property, is_and, is_or, is_not, is_bad}
use Rattle.meaning.proofs.Rows.{item_is}
use Rattle.rows.specs.Rows.{Reads, row_of}
use Rattle.rows.specs.Faults.{Formed}
use Rattle.rows.specs.declared.row.Row.{Row}
use Rattle.rows.proofs.Rows.{in_rows}
use Rattle.rows.proofs.Listed.{Kind, five, kind_of, used}
use Rattle.rows.proofs.Listed.{kind1, kind2, kind3, kind4, kind5, kind6, kind7, kind8, kind16, kind17, kind18, kind19, kind20, unlisted}
use Rattle.rows.proofs.Misuse.{form_read}

unfoldable pub is_conditioned_form : Form → Bool
is_conditioned_form (is_node_lem x k) = false
is_conditioned_form (is_edge δ x k) = false
is_conditioned_form (is_union p q) = false
is_conditioned_form (is_concatenation p q) = false
is_conditioned_form (is_conditioned p q) = true
is_conditioned_form (is_repetition p n m) = false
is_conditioned_form (is_constant x k c) = false
is_conditioned_form (is_property x k y j) = false
is_conditioned_form (is_and p q) = false
is_conditioned_form (is_or p q) = false
is_conditioned_form (is_not p) = false
is_conditioned_form is_bad = false

module _ (pattern : List ℕ) (row : ℕ) (r : Row) (d : Reads pattern row r) (f : Formed pattern) (l : row * 5 + 5 ≤ length pattern) where
  made : item_at (rows_of pattern) row ≡ make (item_at (rows_of pattern)) (form (row_of r))
  made = item_is (rows_of pattern) row (f.ok row (in_rows pattern row l)) ∙ ap (make (item_at (rows_of pattern))) (form_read pattern row r d)

  fine_read : fine (rows_of pattern) row (form (row_of r)) ≡ true
  fine_read = ap (fine (rows_of pattern) row) (sym (form_read pattern row r d)) ∙ f.ok row (in_rows pattern row l)

  -- a row of kind k whose numbers make the form g
  by_kind : (k : ℕ) → r.kind ≡ k → (b : Bool) (g : Form) → form (five k r.p r.q r.r r.s) ≡ if_zero b g → item_at (rows_of pattern) row ≡ make (item_at (rows_of pattern)) g
  by_kind k e b g q =
      let h : form (row_of r) ≡ if_zero b g = ap (λ (n : ℕ). form (five n r.p r.q r.r r.s)) e ∙ q in
      made ∙ ap (make (item_at (rows_of pattern))) (h ∙ used (rows_of pattern) row b g (ap (fine (rows_of pattern) row) (sym h) ∙ fine_read))

  pub item_node : r.kind ≡ 1 → item_at (rows_of pattern) row ≡ pattern_item (node (unless 0 r.p) (unless 0 r.q))
  unfolding form make
  item_node e = by_kind 1 e (eqb r.r 0 && eqb r.s 0) (is_node_lem r.p r.q) refl

  pub item_edge : 2 ≤ r.kind → r.kind < 5 → (δ : Direction) × (item_at (rows_of pattern) row ≡ pattern_item (edge δ (unless 0 r.p) (unless 0 r.q)))
  unfolding form make
  item_edge x y = go (eqb r.kind 2) (eqb r.kind 3) refl refl
    where
      go : (a b : Bool) → eqb r.kind 2 ≡ a → eqb r.kind 3 ≡ b → (δ : Direction) × (item_at (rows_of pattern) row ≡ pattern_item (edge δ (unless 0 r.p) (unless 0 r.q)))
      go true b e₂ e₃ = (forward, by_kind 2 (eqb-true r.kind 2 e₂) (eqb r.r 0 && eqb r.s 0) (is_edge forward r.p r.q) refl)
      go false true e₂ e₃ = (backward, by_kind 3 (eqb-true r.kind 3 e₃) (eqb r.r 0 && eqb r.s 0) (is_edge backward r.p r.q) refl)
      go false false e₂ e₃ =
          let n₂ : r.kind ≡ 2 → ⊥ = eqb-false r.kind 2 e₂ in
          let n₃ : r.kind ≡ 3 → ⊥ = eqb-false r.kind 3 e₃ in
          (undirected, by_kind 4 (omega arith) (eqb r.r 0 && eqb r.s 0) (is_edge undirected r.p r.q) refl)

  pub item_union : r.kind ≡ 5 → item_at (rows_of pattern) row ≡ pattern_item (union (as_pattern (item_at (rows_of pattern) r.p)) (as_pattern (item_at (rows_of pattern) r.q)))
  unfolding form make
  item_union e = by_kind 5 e (eqb r.r 0 && eqb r.s 0) (is_union r.p r.q) refl

  pub item_concatenation : r.kind ≡ 6 → item_at (rows_of pattern) row ≡ pattern_item (concatenation (as_pattern (item_at (rows_of pattern) r.p)) (as_pattern (item_at (rows_of pattern) r.q)))
  unfolding form make
  item_concatenation e = by_kind 6 e (eqb r.r 0 && eqb r.s 0) (is_concatenation r.p r.q) refl

  pub item_conditioned : r.kind ≡ 7 → item_at (rows_of pattern) row ≡ pattern_item (conditioned (as_pattern (item_at (rows_of pattern) r.p)) (as_condition (item_at (rows_of pattern) r.q)))
  unfolding form make
  item_conditioned e = by_kind 7 e (eqb r.r 0 && eqb r.s 0) (is_conditioned r.p r.q) refl

  pub item_repetition : r.kind ≡ 8 → item_at (rows_of pattern) row ≡ pattern_item (repetition (as_pattern (item_at (rows_of pattern) r.p)) r.r (unless 65535 r.s))
  unfolding form make
  item_repetition e = by_kind 8 e (eqb r.q 0) (is_repetition r.p r.r r.s) refl

  pub item_constant : r.kind ≡ 16 → item_at (rows_of pattern) row ≡ condition_item_lem (equals_constant r.p r.q r.r)
  unfolding form make
  item_constant e = by_kind 16 e (eqb r.s 0) (is_constant r.p r.q r.r) refl

  pub item_property : r.kind ≡ 17 → item_at (rows_of pattern) row ≡ condition_item_lem (equals_property r.p r.q r.r r.s)
  unfolding form make if_zero
  item_property e = by_kind 17 e true (is_property r.p r.q r.r r.s) refl

  pub item_and : r.kind ≡ 18 → item_at (rows_of pattern) row ≡ condition_item_lem (and (as_condition (item_at (rows_of pattern) r.p)) (as_condition (item_at (rows_of pattern) r.q)))
  unfolding form make
  item_and e = by_kind 18 e (eqb r.r 0 && eqb r.s 0) (is_and r.p r.q) refl

  pub item_or : r.kind ≡ 19 → item_at (rows_of pattern) row ≡ condition_item_lem (or (as_condition (item_at (rows_of pattern) r.p)) (as_condition (item_at (rows_of pattern) r.q)))
  unfolding form make
  item_or e = by_kind 19 e (eqb r.r 0 && eqb r.s 0) (is_or r.p r.q) refl

  pub item_neg : r.kind ≡ 20 → item_at (rows_of pattern) row ≡ condition_item_lem (neg (as_condition (item_at (rows_of pattern) r.p)))
  unfolding form make
  item_neg e = by_kind 20 e (eqb r.q 0 && (eqb r.r 0 && eqb r.s 0)) (is_not r.p) refl

  pub item_zero : r.kind ≡ 0 → as_pattern (item_at (rows_of pattern) row) ≡ node none none
  unfolding form make as_pattern
  item_zero e = ap as_pattern made ∙ ap (λ (n : ℕ). as_pattern (make (item_at (rows_of pattern)) (form (five n r.p r.q r.r r.s)))) e

  -- a row of no pattern kind stands for a node without a name
  pub item_other : 9 ≤ r.kind → as_pattern (item_at (rows_of pattern) row) ≡ node none none
  unfolding form make if_zero as_pattern
  item_other x = ap as_pattern made ∙ go (kind_of r.kind) x
    where
      cut : (b : Bool) (g : Form) → as_pattern (make (item_at (rows_of pattern)) g) ≡ node none none → as_pattern (make (item_at (rows_of pattern)) (if_zero b g)) ≡ node none none
      cut true g e = e
      cut false g e = refl

      go : {k : ℕ} → Kind k → 9 ≤ k → as_pattern (make (item_at (rows_of pattern)) (form (five k r.p r.q r.r r.s))) ≡ node none none
      go kind1 x = absurd (omega arith)
      go kind2 x = absurd (omega arith)
      go kind3 x = absurd (omega arith)
      go kind4 x = absurd (omega arith)
      go kind5 x = absurd (omega arith)
      go kind6 x = absurd (omega arith)
      go kind7 x = absurd (omega arith)
      go kind8 x = absurd (omega arith)
      go kind16 x = cut (eqb r.s 0) (is_constant r.p r.q r.r) refl
      go kind17 x = refl
      go kind18 x = cut (eqb r.r 0 && eqb r.s 0) (is_and r.p r.q) refl
      go kind19 x = cut (eqb r.r 0 && eqb r.s 0) (is_or r.p r.q) refl
      go kind20 x = cut (eqb r.q 0 && (eqb r.r 0 && eqb r.s 0)) (is_not r.p) refl
      go (unlisted u) x = ap (λ (g : Form). as_pattern (make (item_at (rows_of pattern)) g)) (u.bad r.p r.q r.r r.s)

  -- a row of another kind is no repetition
  pub item_not_repeated : (g : Pattern → Bool) → (r.kind ≡ 8 → ⊥) → on_pattern (repeats g) (item_at (rows_of pattern) row) ≡ false
  unfolding form make if_zero on_pattern repeats
  item_not_repeated g n = ap (on_pattern (repeats g)) made ∙ go (kind_of r.kind) n
    where
      cut : (b : Bool) (h : Form) → on_pattern (repeats g) (make (item_at (rows_of pattern)) h) ≡ false → on_pattern (repeats g) (make (item_at (rows_of pattern)) (if_zero b h)) ≡ false
      cut true h e = e
      cut false h e = refl

      go : {k : ℕ} → Kind k → (k ≡ 8 → ⊥) → on_pattern (repeats g) (make (item_at (rows_of pattern)) (form (five k r.p r.q r.r r.s))) ≡ false
      go kind1 x = cut (eqb r.r 0 && eqb r.s 0) (is_node_lem r.p r.q) refl
      go kind2 x = cut (eqb r.r 0 && eqb r.s 0) (is_edge forward r.p r.q) refl
      go kind3 x = cut (eqb r.r 0 && eqb r.s 0) (is_edge backward r.p r.q) refl
      go kind4 x = cut (eqb r.r 0 && eqb r.s 0) (is_edge undirected r.p r.q) refl
      go kind5 x = cut (eqb r.r 0 && eqb r.s 0) (is_union r.p r.q) refl
      go kind6 x = cut (eqb r.r 0 && eqb r.s 0) (is_concatenation r.p r.q) refl
      go kind7 x = cut (eqb r.r 0 && eqb r.s 0) (is_conditioned r.p r.q) refl
      go kind8 x = absurd (x refl)
      go kind16 x = cut (eqb r.s 0) (is_constant r.p r.q r.r) refl
      go kind17 x = refl
      go kind18 x = cut (eqb r.r 0 && eqb r.s 0) (is_and r.p r.q) refl
      go kind19 x = cut (eqb r.r 0 && eqb r.s 0) (is_or r.p r.q) refl
      go kind20 x = cut (eqb r.q 0 && (eqb r.r 0 && eqb r.s 0)) (is_not r.p) refl
      go (unlisted u) x = ap (λ (h : Form). on_pattern (repeats g) (make (item_at (rows_of pattern)) h)) (u.bad r.p r.q r.r r.s)

  pub form_conditioned : r.kind ≡ 7 → form_at (rows_of pattern) row ≡ is_conditioned r.p r.q
  unfolding form
  form_conditioned e =
      let b : Bool = eqb r.r 0 && eqb r.s 0 in
      let g : Form = is_conditioned r.p r.q in
      let h : form (row_of r) ≡ if_zero b g = ap (λ (n : ℕ). form (five n r.p r.q r.r r.s)) e in
      form_read pattern row r d ∙ h ∙ used (rows_of pattern) row b g (ap (fine (rows_of pattern) row) (sym h) ∙ fine_read)

  -- a row of another kind is not conditioned
  pub form_not_conditioned : (r.kind ≡ 7 → ⊥) → is_conditioned_form (form_at (rows_of pattern) row) ≡ false
  unfolding form if_zero is_conditioned_form
  form_not_conditioned n = ap is_conditioned_form (form_read pattern row r d) ∙ go (kind_of r.kind) n
    where
      cut : (b : Bool) (h : Form) → is_conditioned_form h ≡ false → is_conditioned_form (if_zero b h) ≡ false
      cut true h e = e
      cut false h e = refl

      go : {k : ℕ} → Kind k → (k ≡ 7 → ⊥) → is_conditioned_form (form (five k r.p r.q r.r r.s)) ≡ false
      go kind1 x = cut (eqb r.r 0 && eqb r.s 0) (is_node_lem r.p r.q) refl
      go kind2 x = cut (eqb r.r 0 && eqb r.s 0) (is_edge forward r.p r.q) refl
      go kind3 x = cut (eqb r.r 0 && eqb r.s 0) (is_edge backward r.p r.q) refl
      go kind4 x = cut (eqb r.r 0 && eqb r.s 0) (is_edge undirected r.p r.q) refl
      go kind5 x = cut (eqb r.r 0 && eqb r.s 0) (is_union r.p r.q) refl
      go kind6 x = cut (eqb r.r 0 && eqb r.s 0) (is_concatenation r.p r.q) refl
      go kind7 x = absurd (x refl)
      go kind8 x = cut (eqb r.q 0) (is_repetition r.p r.r r.s) refl
      go kind16 x = cut (eqb r.s 0) (is_constant r.p r.q r.r) refl
      go kind17 x = refl
      go kind18 x = cut (eqb r.r 0 && eqb r.s 0) (is_and r.p r.q) refl
      go kind19 x = cut (eqb r.r 0 && eqb r.s 0) (is_or r.p r.q) refl
      go kind20 x = cut (eqb r.q 0 && (eqb r.r 0 && eqb r.s 0)) (is_not r.p) refl
      go (unlisted u) x = ap is_conditioned_form (u.bad r.p r.q r.r r.s)
