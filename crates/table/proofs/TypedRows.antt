-- 16: where no lower row is without a type, typing that leaves conditions aside is typing, and a row's fault is seen by its own step.
use mathlib.Core.Path.{◌≡◌, refl, sym, ap, ap₂, ◌∙◌, fun_ext}
use mathlib.Core.List.{List, [], ◌∷◌}
use mathlib.Core.Bool.{Bool, true, false, not, ◌&&◌, ◌||◌}
use Prim.Native.Nat.{ℕ, zero, suc, ◌<◌, ◌≤◌}
use native.Mathlib.Omega.{arith}
use lib.Dec.{eqb, leb, ltb}
use lib.ListN.{length}
use borrow.Author.Tests.{eqb-true, eqb-false, leb-true}
use Rattle.meaning.specs.Basics.{eight}
use Rattle.meaning.specs.Pattern.{Pattern, Condition, conditioned, named, in_var, in_condition}
use Rattle.meaning.specs.Typing.{Found, type_of, fits, union_ty, concatenation_ty, repetition_ty, named_ty, conditioned_ty}
use Rattle.meaning.specs.Table.{Form, Item, pattern_item, condition_item_lem, no_item, rows_of, item_at, form_at, fine, make, as_pattern, as_condition, any_of, is_clash_lem, is_variable_lem, untyped, on_pattern, fault16, pattern_row_lem, condition_row, is_node_lem, is_edge, is_union, is_concatenation, is_conditioned, is_repetition, is_constant, is_property, is_and, is_or, is_not, is_bad}
use Rattle.meaning.specs.Table.{Row as RowOf}
use Rattle.meaning.proofs.Logic.{and_l, and_r, or_l, or_r, no_true, no_false, not_false}
use Rattle.meaning.proofs.Rows.{item_is, pattern_below}
use Rattle.meaning.proofs.Variables.{var_all}
use Rattle.meaning.proofs.Unused.{condition_variable}
use Rattle.rows.specs.Rows.{Reads}
use Rattle.rows.specs.Faults.{Formed, Tells}
use Rattle.table.specs.Ready.{Typable}
use Rattle.table.specs.Typing.{plain_of, plain_at, FitsAt, Clashes}
use Rattle.rows.specs.declared.row.Row.{Row}
use Rattle.rows.proofs.Rows.{in_rows}
use Rattle.rows.proofs.Items.{item_conditioned, form_conditioned, form_not_conditioned, is_conditioned_form}

any_at : (xs : List ℕ) (f : ℕ → Bool) (x : ℕ) → any_of xs (λ y. eqb y x) ≡ true → f x ≡ true → any_of xs f ≡ true
unfolding any_of
any_at [] f x m e = no_false m
any_at (y ∷ xs) f x m e = go (eqb y x) refl m (λ k. any_at xs f x k e)
  where
    go : (b : Bool) → eqb y x ≡ b → (b || any_of xs (λ y. eqb y x)) ≡ true → (any_of xs (λ y. eqb y x) ≡ true → any_of xs f ≡ true) → (f y || any_of xs f) ≡ true
    go true q m ih = or_l (f y) (any_of xs f) (ap f (eqb-true y x q) ∙ e)
    go false q m ih = or_r (f y) (any_of xs f) (ih m)

in_eight : (x : ℕ) → 1 ≤ x → x ≤ 8 → any_of eight (λ y. eqb y x) ≡ true
unfolding any_of eight
in_eight zero l h = absurd (omega arith)
in_eight (suc zero) l h = refl
in_eight (suc (suc zero)) l h = refl
in_eight (suc (suc (suc zero))) l h = refl
in_eight (suc (suc (suc (suc zero)))) l h = refl
in_eight (suc (suc (suc (suc (suc zero))))) l h = refl
in_eight (suc (suc (suc (suc (suc (suc zero)))))) l h = refl
in_eight (suc (suc (suc (suc (suc (suc (suc zero))))))) l h = refl
in_eight (suc (suc (suc (suc (suc (suc (suc (suc zero)))))))) l h = refl
in_eight (suc (suc (suc (suc (suc (suc (suc (suc (suc n))))))))) l h = absurd (omega arith)

any_variable : (f : ℕ → Bool) (x : ℕ) → is_variable_lem x ≡ true → f x ≡ true → any_of eight f ≡ true
unfolding is_variable_lem
any_variable f x v e = any_at eight f x (in_eight x (leb-true 1 x (and_l (leb 1 x) (leb x 8) v)) (leb-true x 8 (and_r (leb 1 x) (leb x 8) v))) e

-- ------------------------------------------------------------------ a conditioned pattern
module _ (a : Pattern) (θ : Condition) where
  fit_type : (x : ℕ) → fits (type_of a) θ ≡ true → type_of (conditioned a θ) x ≡ type_of a x
  unfolding type_of conditioned_ty
  fit_type x e = ap (λ (b : Bool). conditioned_ty b (type_of a x) (in_var (conditioned a θ) x)) e

  unfit_clash : (x : ℕ) → fits (type_of a) θ ≡ false → in_condition θ x ≡ true → is_clash_lem (type_of (conditioned a θ) x) ≡ true
  unfolding type_of conditioned_ty is_clash_lem in_var
  unfit_clash x e u = ap₂ (λ (b c : Bool). is_clash_lem (conditioned_ty b (type_of a x) c)) e (or_r (in_var a x) (in_condition θ x) u)

  untyped_conditioned : ((x : ℕ) → in_var (conditioned a θ) x ≡ true → is_variable_lem x ≡ true) → untyped a ≡ false → untyped (conditioned a θ) ≡ not (fits (type_of a) θ)
  unfolding untyped in_var
  untyped_conditioned v n = go (fits (type_of a) θ) refl
    where
      go : (b : Bool) → fits (type_of a) θ ≡ b → untyped (conditioned a θ) ≡ not b
      go true e = ap (λ (f : ℕ → Found). any_of eight (λ x. is_clash_lem (f x))) (fun_ext (λ x. fit_type x e)) ∙ n
      go false e = let h = condition_variable θ in any_variable (λ x. is_clash_lem (type_of (conditioned a θ) x)) h.0 (v h.0 (or_r (in_var a h.0) (in_condition θ h.0) h.1)) (unfit_clash h.0 e h.1)

-- ------------------------------------------------------------------ rows
item_untyped : (x : Item) → on_pattern untyped x ≡ untyped (as_pattern x)
unfolding on_pattern untyped as_pattern any_of eight is_clash_lem type_of named_ty named
item_untyped (pattern_item π) = refl
item_untyped (condition_item_lem θ) = refl
item_untyped no_item = refl

fault_untyped : (rows : List RowOf) (i : ℕ) → fault16 rows i ≡ untyped (as_pattern (item_at rows i))
unfolding fault16
fault_untyped rows i = item_untyped (item_at rows i)

abbrev Plain : Pattern → Type 0
Plain π = (x : ℕ) → plain_of π x ≡ type_of π x

module _ (pattern : List ℕ) (ok : (i : ℕ) → i < length (rows_of pattern) → fine (rows_of pattern) i (form_at (rows_of pattern) i) ≡ true) where
  abbrev row : ℕ → Pattern
  row j = as_pattern (item_at (rows_of pattern) j)

  abbrev Clean : ℕ → Type 0
  Clean i = (j : ℕ) → j < i → fault16 (rows_of pattern) j ≡ false

  -- the row's fault, where it is a conditioned one and all lower rows are plain
  conditioned_fault : (i p q : ℕ) → i < length (rows_of pattern) → Clean i → Plain (row p) → p < i → item_at (rows_of pattern) i ≡ pattern_item (conditioned (row p) (as_condition (item_at (rows_of pattern) q))) → fault16 (rows_of pattern) i ≡ not (fits (plain_at pattern p) (as_condition (item_at (rows_of pattern) q)))
  unfolding as_pattern
  conditioned_fault i p q h n s l e =
      let θ = as_condition (item_at (rows_of pattern) q) in
      let z : row i ≡ conditioned (row p) θ = ap as_pattern e in
      let v : (x : ℕ) → in_var (conditioned (row p) θ) x ≡ true → is_variable_lem x ≡ true = λ x u. var_all (rows_of pattern) ok i h x (ap (λ (π : Pattern). in_var π x) z ∙ u) in
      fault_untyped (rows_of pattern) i ∙ ap untyped z ∙ untyped_conditioned (row p) θ v (sym (fault_untyped (rows_of pattern) p) ∙ n p l) ∙ ap (λ (f : ℕ → Found). not (fits f θ)) (sym (fun_ext s))

  -- a step that is no condition
  plain_step : (i : ℕ) (f : Form) → fine (rows_of pattern) i f ≡ true → is_conditioned_form f ≡ false → ((j : ℕ) → j < i → Plain (row j)) → Plain (as_pattern (make (item_at (rows_of pattern)) f))
  unfolding fine make as_pattern plain_of type_of is_conditioned_form
  plain_step i (is_node_lem y k) e c h x = refl
  plain_step i (is_edge δ y k) e c h x = refl
  plain_step i (is_union p q) e c h x = ap₂ union_ty (h p (pattern_below (rows_of pattern) i p (and_l _ _ e)) x) (h q (pattern_below (rows_of pattern) i q (and_r (pattern_row_lem (rows_of pattern) i p) _ e)) x)
  plain_step i (is_concatenation p q) e c h x = ap₂ concatenation_ty (h p (pattern_below (rows_of pattern) i p (and_l _ _ e)) x) (h q (pattern_below (rows_of pattern) i q (and_r (pattern_row_lem (rows_of pattern) i p) _ e)) x)
  plain_step i (is_conditioned p q) e c h x = no_true c
  plain_step i (is_repetition p n m) e c h x = ap repetition_ty (h p (pattern_below (rows_of pattern) i p (and_l _ _ e)) x)
  plain_step i (is_constant y k z) e c h x = refl
  plain_step i (is_property y k z w) e c h x = refl
  plain_step i (is_and p q) e c h x = refl
  plain_step i (is_or p q) e c h x = refl
  plain_step i (is_not p) e c h x = refl
  plain_step i is_bad e c h x = refl

  -- a conditioned row with no fault
  plain_conditioned : (i : ℕ) (f : Form) → i < length (rows_of pattern) → fine (rows_of pattern) i f ≡ true → item_at (rows_of pattern) i ≡ make (item_at (rows_of pattern)) f → Clean i → fault16 (rows_of pattern) i ≡ false → ((j : ℕ) → j < i → Plain (row j)) → is_conditioned_form f ≡ true → Plain (as_pattern (make (item_at (rows_of pattern)) f))
  unfolding fine make as_pattern plain_of is_conditioned_form
  plain_conditioned i (is_conditioned p q) l e m n z h c x =
      let b : p < i = pattern_below (rows_of pattern) i p (and_l _ _ e) in
      let θ = as_condition (item_at (rows_of pattern) q) in
      let k : fits (plain_at pattern p) θ ≡ true = not_false (fits (plain_at pattern p) θ) (sym (conditioned_fault i p q l n (h p b) b m) ∙ z) in
      h p b x ∙ sym (fit_type (row p) θ x (ap (λ (f : ℕ → Found). fits f θ) (sym (fun_ext (h p b))) ∙ k))
  plain_conditioned i (is_node_lem y k) l e m n z h c x = no_false c
  plain_conditioned i (is_edge δ y k) l e m n z h c x = no_false c
  plain_conditioned i (is_union p q) l e m n z h c x = no_false c
  plain_conditioned i (is_concatenation p q) l e m n z h c x = no_false c
  plain_conditioned i (is_repetition p a b) l e m n z h c x = no_false c
  plain_conditioned i (is_constant y k w) l e m n z h c x = no_false c
  plain_conditioned i (is_property y k w v) l e m n z h c x = no_false c
  plain_conditioned i (is_and p q) l e m n z h c x = no_false c
  plain_conditioned i (is_or p q) l e m n z h c x = no_false c
  plain_conditioned i (is_not p) l e m n z h c x = no_false c
  plain_conditioned i is_bad l e m n z h c x = no_false c

  plain_row : (i : ℕ) → i < length (rows_of pattern) → Clean i → fault16 (rows_of pattern) i ≡ false → ((j : ℕ) → j < i → Plain (row j)) → Plain (row i)
  plain_row i l n z h = rw (item_is (rows_of pattern) i (ok i l)) (go (is_conditioned_form (form_at (rows_of pattern) i)) refl)
    where
      go : (b : Bool) → is_conditioned_form (form_at (rows_of pattern) i) ≡ b → Plain (as_pattern (make (item_at (rows_of pattern)) (form_at (rows_of pattern) i)))
      go true c = plain_conditioned i (form_at (rows_of pattern) i) l (ok i l) (item_is (rows_of pattern) i (ok i l)) n z h c
      go false c = plain_step i (form_at (rows_of pattern) i) (ok i l) c h

  plain_below : (n i : ℕ) → i < n → i < length (rows_of pattern) → Clean (suc i) → Plain (row i)
  plain_below zero i h l c = absurd (omega arith)
  plain_below (suc n) i h l c = plain_row i l (λ j k. c j (omega arith)) (c i (omega arith)) (λ j k. plain_below n j (omega arith) (omega arith) (λ m q. c m (omega arith)))

  -- where no row up to i is without a type, leaving conditions aside changes nothing
  pub plain_typed : (i : ℕ) → i < length (rows_of pattern) → Clean (suc i) → Plain (row i)
  plain_typed i l c = plain_below (suc i) i (omega arith) l c

  lower_plain : (i : ℕ) → i < length (rows_of pattern) → Clean i → (j : ℕ) → j < i → Plain (row j)
  lower_plain i l c j k = plain_typed j (omega arith) (λ m q. c m (omega arith))

  other_fault : (i : ℕ) → i < length (rows_of pattern) → Clean i → is_conditioned_form (form_at (rows_of pattern) i) ≡ false → fault16 (rows_of pattern) i ≡ any_of eight (λ x. is_clash_lem (plain_at pattern i x))
  unfolding untyped
  other_fault i l n c =
      let s : Plain (row i) = rw (item_is (rows_of pattern) i (ok i l)) (plain_step i (form_at (rows_of pattern) i) (ok i l) c (lower_plain i l n)) in
      fault_untyped (rows_of pattern) i ∙ ap (λ (f : ℕ → Found). any_of eight (λ x. is_clash_lem (f x))) (sym (fun_ext s))

-- ------------------------------------------------------------------ the ways out of untyped
module _ (pattern : List ℕ) (i : ℕ) (r : Row) (d : Reads pattern i r) (s : Typable pattern i) where
  f : Formed pattern
  f = s.stands.formed

  l : i < length (rows_of pattern)
  l = in_rows pattern i s.stands.room

  -- a conditioned row names a lower pattern and a condition
  parts : r.kind ≡ 7 → (pattern_row_lem (rows_of pattern) i r.p && condition_row (rows_of pattern) i r.q) ≡ true
  unfolding fine
  parts k = ap (fine (rows_of pattern) i) (sym (form_conditioned pattern i r d f s.stands.room k)) ∙ f.ok i l

  p_under : r.kind ≡ 7 → r.p < i
  p_under k = pattern_below (rows_of pattern) i r.p (and_l _ _ (parts k))

  no_clash : r.kind ≡ 7 → ((j : ℕ) → j < i → fault16 (rows_of pattern) j ≡ false) → any_of eight (λ x. is_clash_lem (plain_at pattern i x)) ≡ false
  unfolding plain_of as_pattern untyped
  no_clash k n =
      let z : as_pattern (item_at (rows_of pattern) i) ≡ conditioned (as_pattern (item_at (rows_of pattern) r.p)) (as_condition (item_at (rows_of pattern) r.q)) = ap as_pattern (item_conditioned pattern i r d f s.stands.room k) in
      ap (λ (π : Pattern). any_of eight (λ x. is_clash_lem (plain_of π x))) z ∙ ap (λ (f : ℕ → Found). any_of eight (λ x. is_clash_lem (f x))) (fun_ext (lower_plain pattern f.ok i l n r.p (p_under k))) ∙ sym (fault_untyped (rows_of pattern) r.p) ∙ n r.p (p_under k)

  pub untyped_clash : (b : Bool) → Clashes pattern i b → b ≡ true → Tells (fault16 (rows_of pattern)) i true
  untyped_clash b h e = record { is = λ n. go n (eqb r.kind 7) refl }
    where
      go : ((j : ℕ) → j < i → fault16 (rows_of pattern) j ≡ false) → (c : Bool) → eqb r.kind 7 ≡ c → true ≡ fault16 (rows_of pattern) i
      go n true q = no_true (sym e ∙ h.is ∙ no_clash (eqb-true r.kind 7 q) n)
      go n false q = sym e ∙ h.is ∙ sym (other_fault pattern f.ok i l n (form_not_conditioned pattern i r d f s.stands.room (eqb-false r.kind 7 q)))

  pub untyped_fits : (b : Bool) → r.kind ≡ 7 → FitsAt pattern r.p r.q b → Tells (fault16 (rows_of pattern)) i (not b)
  unfolding condition_row
  untyped_fits b k h = record {
    is = λ n.
        ap not (h.is (and_r (ltb r.q i) _ (and_r (pattern_row_lem (rows_of pattern) i r.p) _ (parts k))))
        ∙ sym (conditioned_fault pattern f.ok i r.p r.q l n (lower_plain pattern f.ok i l n r.p (p_under k)) (p_under k) (item_conditioned pattern i r d f s.stands.room k));
  }

  pub untyped_not : (b : Bool) → Clashes pattern i b → b ≡ false → (r.kind ≡ 7 → ⊥) → Tells (fault16 (rows_of pattern)) i false
  untyped_not b h e k = record { is = λ n. sym e ∙ h.is ∙ sym (other_fault pattern f.ok i l n (form_not_conditioned pattern i r d f s.stands.room k)) }
