-- A table is refused by 16 exactly where Figure 2 gives no type, at the lowest such row.
use mathlib.Core.Path.{◌∙◌, ◌≡◌, ap, refl, sym}
use mathlib.Core.List.{List, [], ◌∷◌}
use mathlib.Core.Option.{Option, none, some}
use mathlib.Core.Bool.{Bool, false, true}
use mathlib.Core.Logic.{◌↔◌, ◌≢◌}
use Prim.Native.Nat.{◌<◌, ℕ}
use native.Mathlib.Omega.{arith}
use lib.ListN.{length}
use Rattle.meaning.proofs.Accepted.{WellFormed, clear, rows_fine, typed_pattern}
use Rattle.meaning.proofs.Causes.{lowest_found, lowest_some}
use Rattle.meaning.proofs.Logic.{either, is_false, no_false, no_none, or_cases, some_inj}
use Rattle.meaning.proofs.Opened.{opened}
use Rattle.meaning.proofs.Types.{well_typed_iff}
use Rattle.meaning.proofs.Variables.{var_all}
use Rattle.meaning.specs.Basics.{Cause, at_row, eight, first_of, lowest}
use Rattle.meaning.specs.Pattern.{Pattern, in_var}
use Rattle.meaning.specs.Table.{Item, Row, any_of, as_pattern, condition_item_lem, fault12, fault13, fault14, fault15, fault16, fine, form_at, is_clash_lem, is_variable_lem, item_at, no_item, on_pattern, pattern_item, row_cause, table_fault, untyped}
use Rattle.meaning.specs.Typing.{Found, WellTyped, absent, clash, type_of, typed}

-- a pattern whose variables are 1 to 8 is untyped just where Definition 1 fails
any_true : (f : ℕ → Bool) (l : List ℕ) → any_of l f ≡ true → (x : ℕ) × (f x ≡ true)
unfolding opened
any_true f [] e = no_false e
any_true f (x ∷ l) e = either (or_cases (f x) (any_of l f) e) (λ h. (x, h)) (any_true f l)

is_clash : (f : Found) → is_clash_lem f ≡ true → f ≡ clash
unfolding opened
is_clash absent e = no_false e
is_clash clash e = refl
is_clash (typed τ) e = no_false e

pub untyped→ : (π : Pattern) → untyped π ≡ true → WellTyped π → ⊥
unfolding opened
untyped→ π e w = let h = any_true (λ x. is_clash_lem (type_of π x)) eight e in (well_typed_iff π).0 w h.0 (is_clash (type_of π h.0) h.1)

pub typed→ : (π : Pattern) → ((x : ℕ) → in_var π x ≡ true → is_variable_lem x ≡ true) → untyped π ≡ false → WellTyped π
unfolding opened
typed→ π v e = (well_typed_iff π).1 (typed_pattern π v e)

-- the pattern of a row, if it has one, is well-typed
abbrev pub RowTyped : List Row → ℕ → Type 0
RowTyped t i = (π : Pattern) → item_at t i ≡ pattern_item π → WellTyped π

-- the row has a pattern that has no type: 16
pub record RowUntyped (t : List Row) (i : ℕ) : Type 0 where
  pub π : Pattern
  pub item_is : item_at t i ≡ pattern_item π
  pub no_type : WellTyped π → ⊥

module _ (t : List Row) (ok : (i : ℕ) → i < length t → fine t i (form_at t i) ≡ true) where
  row_variables : (i : ℕ) → i < length t → (π : Pattern) → item_at t i ≡ pattern_item π → (x : ℕ) → in_var π x ≡ true → is_variable_lem x ≡ true
  unfolding opened
  row_variables i h π q x e = var_all t ok i h x (ap (λ (y : Item). in_var (as_pattern y) x) q ∙ e)

  row_typed→ : (i : ℕ) → i < length t → fault16 t i ≡ false → RowTyped t i
  unfolding opened
  row_typed→ i h e π q = typed→ π (row_variables i h π q) (sym (ap (on_pattern untyped) q) ∙ e)

  pub row_typed← : (i : ℕ) → i < length t → RowTyped t i → fault16 t i ≡ false
  unfolding opened
  row_typed← i h w = go (item_at t i) refl
    where
      go : (y : Item) → item_at t i ≡ y → on_pattern untyped y ≡ false
      go (pattern_item π) q = is_false (untyped π) (λ e. untyped→ π e (w π q))
      go (condition_item_lem θ) q = refl
      go no_item q = refl

  row_untyped→ : (i : ℕ) → i < length t → fault16 t i ≡ true → RowUntyped t i
  unfolding opened
  row_untyped→ i h e = go (item_at t i) refl e
    where
      go : (y : Item) → item_at t i ≡ y → on_pattern untyped y ≡ true → RowUntyped t i
      go (pattern_item π) q u = record { π = π; item_is = q; no_type = untyped→ π u }
      go (condition_item_lem θ) q u = no_false u
      go no_item q u = no_false u

  row_untyped← : (i : ℕ) → i < length t → RowUntyped t i → fault16 t i ≡ true
  unfolding opened
  row_untyped← i h u = ap (on_pattern untyped) u.item_is ∙ go (untyped u.π) refl
    where
      go : (b : Bool) → untyped u.π ≡ b → untyped u.π ≡ true
      go true e = e
      go false e = absurd (u.no_type (typed→ u.π (row_variables i h u.π u.item_is) e))

-- ------------------------------------------------------------------ refused by 16
-- row i of a well-formed table has no type, and it is the lowest such row
pub record LowestUntyped (t : List Row) (i : ℕ) : Type 0 where
  pub well_formed : WellFormed t
  pub is_row : i < length t
  pub no_type : RowUntyped t i
  pub lower_typed : (j : ℕ) → j < i → RowTyped t j

pair_number : {a b c d : ℕ} → ◌≡◌ {A = Cause} (some (a, b)) (some (c, d)) → a ≡ c
unfolding opened
pair_number e = ap (λ (x : ℕ × ℕ). x.0) (some_inj e)

pair_row : {a b c d : ℕ} → ◌≡◌ {A = Cause} (some (a, b)) (some (c, d)) → b ≡ d
unfolding opened
pair_row e = ap (λ (x : ℕ × ℕ). x.1) (some_inj e)

-- a cause that has another number is not the one given
pass : (n m i : ℕ) (o : Option ℕ) (c : Cause) → n ≢ m → first_of (at_row n o) c ≡ some (m, i) → (at_row n o ≡ none) × (c ≡ some (m, i))
unfolding opened
pass n m i none c d e = (refl, e)
pass n m i (some k) c d e = absurd (d (pair_number e))

at_16 : (i : ℕ) (o : Option ℕ) → at_row 16 o ≡ some (16, i) → o ≡ some i
unfolding opened
at_16 i none e = no_none e
at_16 i (some k) e = ap some (pair_row e)

none_first : (n : ℕ) (o : Option ℕ) (c : Cause) → o ≡ none → first_of (at_row n o) c ≡ c
unfolding opened
none_first n o c e = ap (λ (x : Option ℕ). first_of (at_row n x) c) e

pub lowest_clear : (t : List Row) (f : ℕ → Bool) → ((i : ℕ) → i < length t → f i ≡ false) → lowest (length t) 0 f ≡ none
unfolding opened
lowest_clear t f h = go (lowest (length t) 0 f) refl
  where
    go : (o : Option ℕ) → lowest (length t) 0 f ≡ o → o ≡ none
    go none e = refl
    go (some k) e = let z = lowest_some (length t) 0 f k e in no_false (sym (h k (omega (arith, z.1))) ∙ z.2)

refused_16→ : (t : List Row) (i : ℕ) → table_fault t ≡ some (16, i) → LowestUntyped t i
unfolding opened
refused_16→ t i e =
    let l : (ℕ → Bool) → Option ℕ = λ f. lowest (length t) 0 f in
    let c₁₆ : Cause = row_cause t 16 (fault16 t) in
    let c₁₅ : Cause = first_of (row_cause t 15 (fault15 t)) c₁₆ in
    let c₁₄ : Cause = first_of (row_cause t 14 (fault14 t)) c₁₅ in
    let a = pass 12 16 i (l (fault12 t)) (first_of (row_cause t 13 (fault13 t)) c₁₄) (omega arith) e in
    let b = pass 13 16 i (l (fault13 t)) c₁₄ (omega arith) a.1 in
    let c = pass 14 16 i (l (fault14 t)) c₁₅ (omega arith) b.1 in
    let d = pass 15 16 i (l (fault15 t)) c₁₆ (omega arith) c.1 in
    let z = lowest_some (length t) 0 (fault16 t) i (at_16 i (l (fault16 t)) d.1) in
    let w : WellFormed t = record { no_12 = clear t 12 (fault12 t) a.0; no_13 = clear t 13 (fault13 t) b.0; no_14 = clear t 14 (fault14 t) c.0; no_15 = clear t 15 (fault15 t) d.0 } in
    let ok = rows_fine t w in
    let k : i < length t = omega (arith, z.1) in
    record {
      well_formed = w;
      is_row = k;
      no_type = row_untyped→ t ok i k z.2;
      lower_typed = λ j h. row_typed→ t ok j (omega arith) (z.3 j (omega arith) h);
    }

-- a well-formed table has no cause but 16
pub formed_fault : (t : List Row) → WellFormed t → table_fault t ≡ row_cause t 16 (fault16 t)
unfolding opened
formed_fault t w =
    let l : (ℕ → Bool) → Option ℕ = λ f. lowest (length t) 0 f in
    let c₁₆ : Cause = row_cause t 16 (fault16 t) in
    let c₁₅ : Cause = first_of (row_cause t 15 (fault15 t)) c₁₆ in
    let c₁₄ : Cause = first_of (row_cause t 14 (fault14 t)) c₁₅ in
    none_first 12 (l (fault12 t)) (first_of (row_cause t 13 (fault13 t)) c₁₄) (lowest_clear t (fault12 t) w.no_12)
    ∙ (none_first 13 (l (fault13 t)) c₁₄ (lowest_clear t (fault13 t) w.no_13)
    ∙ (none_first 14 (l (fault14 t)) c₁₅ (lowest_clear t (fault14 t) w.no_14) ∙ none_first 15 (l (fault15 t)) c₁₆ (lowest_clear t (fault15 t) w.no_15)))

refused_16← : (t : List Row) (i : ℕ) → LowestUntyped t i → table_fault t ≡ some (16, i)
unfolding opened
refused_16← t i u =
    let ok = rows_fine t u.well_formed in
    let k : i < length t = u.is_row in
    let found = lowest_found (length t) 0 (fault16 t) i (omega arith) (omega arith) (row_untyped← t ok i k u.no_type) (λ j _ h. row_typed← t ok j (omega arith) (u.lower_typed j h)) in
    formed_fault t u.well_formed ∙ ap (at_row 16) found

pub refused_16 : (t : List Row) (i : ℕ) → (table_fault t ≡ some (16, i)) ↔ LowestUntyped t i
unfolding opened
refused_16 t i = (refused_16→ t i, refused_16← t i)
