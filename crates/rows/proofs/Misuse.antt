-- The ways out of misused and malformed.
use mathlib.Core.Path.{◌≡◌, refl, sym, ap, ◌∙◌}
use mathlib.Core.List.{List}
use mathlib.Core.Bool.{Bool, true, false, not}
use Prim.Native.Nat.{ℕ, ◌<◌, ◌≤◌}
use native.Mathlib.Omega.{arith}
use lib.Dec.{eqb, ltb, leb}
use borrow.Author.Tests.{le-leb, lt-leb, lt-ltb, le-ltb, eq-eqb, ne_eqb, ltb-true, ltb-false}
use Rattle.std.specs.Prelude.{if◌then◌else◌}
use Rattle.meaning.specs.Table.{rows_of, form, form_at, fine, pattern_form, condition_form, pattern_row_lem, condition_row, is_variable_lem, fault12}
use Rattle.meaning.specs.Table.{Row as RowOf}
use Rattle.meaning.proofs.Logic.{not_false}
use Rattle.rows.specs.Rows.{Reads, row_of, pattern_kind_lem, condition_kind_lem}
use Rattle.rows.specs.Uses.{use_of_lem, allowed, Misused}
use Rattle.rows.specs.Faults.{Tells}
use Rattle.rows.specs.declared.row.Row.{Row}
use Rattle.rows.proofs.Listed.{kind_of, fitted, fine_fitted, pattern_by_kind, condition_by_kind}
use Rattle.rows.proofs.Listed.{high as kind_high}

-- ------------------------------------------------------------------ tests and their opposites
not_le : (a b : ℕ) → ltb a b ≡ not (leb b a)
not_le a b = go (ltb a b) refl
  where
    go : (c : Bool) → ltb a b ≡ c → c ≡ not (leb b a)
    go true e = sym (ap not (lt-leb b a (ltb-true a b e)))
    go false e = sym (ap not (le-leb b a (ltb-false a b e)))

-- ------------------------------------------------------------------ a row that was read
pub form_read : (pattern : List ℕ) (i : ℕ) (r : Row) → Reads pattern i r → form_at (rows_of pattern) i ≡ form (row_of r)
unfolding form_at
form_read pattern i r h = ap form h.is

pub fine_pattern : (pattern : List ℕ) (j : ℕ) (r : Row) → Reads pattern j r → fine (rows_of pattern) j (form_at (rows_of pattern) j) ≡ true → pattern_form (form_at (rows_of pattern) j) ≡ pattern_kind_lem r.kind
fine_pattern pattern j r h e =
    let f = form_read pattern j r h in
    ap pattern_form f ∙ pattern_by_kind (rows_of pattern) j (kind_of r.kind) r.p r.q r.r r.s (ap (fine (rows_of pattern) j) (sym f) ∙ e)

pub fine_condition : (pattern : List ℕ) (j : ℕ) (r : Row) → Reads pattern j r → fine (rows_of pattern) j (form_at (rows_of pattern) j) ≡ true → condition_form (form_at (rows_of pattern) j) ≡ condition_kind_lem r.kind
fine_condition pattern j r h e =
    let f = form_read pattern j r h in
    ap condition_form f ∙ condition_by_kind (rows_of pattern) j (kind_of r.kind) r.p r.q r.r r.s (ap (fine (rows_of pattern) j) (sym f) ∙ e)

-- ------------------------------------------------------------------ misused
module _ (rows : List RowOf) (i u n : ℕ) where
  pub mis_zero : u ≡ 0 → Misused rows i u n (not (eqb n 0))
  unfolding allowed
  mis_zero e = record { is = λ h. rw e }

  pub mis_name : u ≡ 1 → Misused rows i u n (ltb 8 n)
  unfolding allowed
  mis_name e = record { is = λ h. rw e (not_le 8 n) }

  pub mis_any : u ≡ 2 → Misused rows i u n false
  unfolding allowed
  mis_any e = record { is = λ h. rw e }

  pub mis_above : u ≡ 3 → i ≤ n → Misused rows i u n true
  unfolding allowed pattern_row_lem
  mis_above e l = record { is = λ h. rw (e, le-ltb n i l) }

  pub mis_above_c : u ≡ 4 → i ≤ n → Misused rows i u n true
  unfolding allowed condition_row
  mis_above_c e l = record { is = λ h. rw (e, le-ltb n i l) }

  pub mis_none : u ≡ 5 → n ≡ 0 → Misused rows i u n (eqb n 0)
  unfolding allowed is_variable_lem
  mis_none e z = record { is = λ h. rw (e, z) }

  pub mis_variable : u ≡ 5 → (n ≡ 0 → ⊥) → Misused rows i u n (ltb 8 n)
  unfolding allowed is_variable_lem
  mis_variable e z = record { is = λ h. rw (e, le-leb 1 n (omega arith)) (not_le 8 n) }

  pub mis_count : u ≡ 6 → Misused rows i u n (ltb 65534 n)
  unfolding allowed
  mis_count e = record { is = λ h. rw e (not_le 65534 n) }

  pub mis_rest : (u ≡ 0 → ⊥) → (u ≡ 1 → ⊥) → (u ≡ 2 → ⊥) → (u ≡ 3 → ⊥) → (u ≡ 4 → ⊥) → (u ≡ 5 → ⊥) → (u ≡ 6 → ⊥) → Misused rows i u n true
  unfolding allowed
  mis_rest a b c d e f g = record { is = λ h. rw (ne_eqb u 0 a, ne_eqb u 1 b, ne_eqb u 2 c, ne_eqb u 3 d, ne_eqb u 4 e, ne_eqb u 5 f, ne_eqb u 6 g) }

clean_fine : (rows : List RowOf) (j : ℕ) → fault12 rows j ≡ false → fine rows j (form_at rows j) ≡ true
unfolding fault12
clean_fine rows j e = not_false (fine rows j (form_at rows j)) e

module _ (pattern : List ℕ) (i u n : ℕ) (r : Row) (b : Bool) where
  pub mis_pattern : u ≡ 3 → n < i → Reads pattern n r → b ≡ pattern_kind_lem r.kind → Misused (rows_of pattern) i u n (not b)
  unfolding allowed pattern_row_lem
  mis_pattern e l d q = record { is = λ h. ap not (q ∙ sym (fine_pattern pattern n r d (clean_fine (rows_of pattern) n (h n l)))) ∙ rw (e, lt-ltb n i l) }

  pub mis_condition : u ≡ 4 → n < i → Reads pattern n r → b ≡ condition_kind_lem r.kind → Misused (rows_of pattern) i u n (not b)
  unfolding allowed condition_row
  mis_condition e l d q = record { is = λ h. ap not (q ∙ sym (fine_condition pattern n r d (clean_fine (rows_of pattern) n (h n l)))) ∙ rw (e, lt-ltb n i l) }

-- ------------------------------------------------------------------ malformed
told : (rows : List RowOf) (i u v n : ℕ) (b c : Bool) → u ≡ v → ((j : ℕ) → j < i → fault12 rows j ≡ false) → Misused rows i u n b → b ≡ not c → allowed rows i v n ≡ c
told rows i u v n b c e h m q = ap (λ (w : ℕ). allowed rows i w n) (sym e) ∙ flip (allowed rows i u n) c (sym (m.is h) ∙ q)
  where
    flip : (x y : Bool) → not x ≡ not y → x ≡ y
    flip true true e = refl
    flip true false e = sym e
    flip false true e = sym e
    flip false false e = refl

module _ (pattern : List ℕ) (i : ℕ) (r : Row) (d : Reads pattern i r) where
  fault_read : fault12 (rows_of pattern) i ≡ not (fitted (rows_of pattern) i r.kind r.p r.q r.r r.s)
  unfolding fault12
  fault_read = ap not (ap (fine (rows_of pattern) i) (form_read pattern i r d) ∙ fine_fitted (rows_of pattern) i (kind_of r.kind) r.p r.q r.r r.s)

  pub mal_kind : 20 < r.kind → Tells (fault12 (rows_of pattern)) i true
  unfolding fault12 fine
  mal_kind l = record { is = λ h. sym (ap not (ap (fine (rows_of pattern) i) (form_read pattern i r d ∙ (kind_high r.kind l).bad r.p r.q r.r r.s))) }

  module _ (u₀ : ℕ) (b₀ : Bool) (e₀ : u₀ ≡ use_of_lem r.kind 0) (m₀ : Misused (rows_of pattern) i u₀ r.p b₀) where
    pub mal_p : b₀ ≡ true → Tells (fault12 (rows_of pattern)) i true
    unfolding fitted
    mal_p y = record { is = λ h. sym (fault_read ∙ rw (told (rows_of pattern) i u₀ _ r.p b₀ false e₀ h m₀ y)) }

    module _ (n₀ : b₀ ≡ false) (u₁ : ℕ) (b₁ : Bool) (e₁ : u₁ ≡ use_of_lem r.kind 1) (m₁ : Misused (rows_of pattern) i u₁ r.q b₁) where
      pub mal_q : b₁ ≡ true → Tells (fault12 (rows_of pattern)) i true
      unfolding fitted
      mal_q y = record { is = λ h. sym (fault_read ∙ rw (told (rows_of pattern) i u₀ _ r.p b₀ true e₀ h m₀ n₀, told (rows_of pattern) i u₁ _ r.q b₁ false e₁ h m₁ y)) }

      module _ (n₁ : b₁ ≡ false) (u₂ : ℕ) (b₂ : Bool) (e₂ : u₂ ≡ use_of_lem r.kind 2) (m₂ : Misused (rows_of pattern) i u₂ r.r b₂) where
        pub mal_r : b₂ ≡ true → Tells (fault12 (rows_of pattern)) i true
        unfolding fitted
        mal_r y = record { is = λ h. sym (fault_read ∙ rw (told (rows_of pattern) i u₀ _ r.p b₀ true e₀ h m₀ n₀, told (rows_of pattern) i u₁ _ r.q b₁ true e₁ h m₁ n₁, told (rows_of pattern) i u₂ _ r.r b₂ false e₂ h m₂ y)) }

        module _ (n₂ : b₂ ≡ false) (u₃ : ℕ) (b₃ : Bool) (e₃ : u₃ ≡ use_of_lem r.kind 3) (m₃ : Misused (rows_of pattern) i u₃ r.s b₃) where
          pub mal_s : b₃ ≡ true → Tells (fault12 (rows_of pattern)) i true
          unfolding fitted
          mal_s y = record { is = λ h. sym (fault_read ∙ rw (told (rows_of pattern) i u₀ _ r.p b₀ true e₀ h m₀ n₀, told (rows_of pattern) i u₁ _ r.q b₁ true e₁ h m₁ n₁, told (rows_of pattern) i u₂ _ r.r b₂ true e₂ h m₂ n₂, told (rows_of pattern) i u₃ _ r.s b₃ false e₃ h m₃ y)) }

          all : ((j : ℕ) → j < i → fault12 (rows_of pattern) j ≡ false) → b₃ ≡ false → fault12 (rows_of pattern) i ≡ not (if eqb r.kind 8 then leb r.r r.s else true)
          unfolding fitted
          all h n₃ = fault_read ∙ rw (told (rows_of pattern) i u₀ _ r.p b₀ true e₀ h m₀ n₀, told (rows_of pattern) i u₁ _ r.q b₁ true e₁ h m₁ n₁, told (rows_of pattern) i u₂ _ r.r b₂ true e₂ h m₂ n₂, told (rows_of pattern) i u₃ _ r.s b₃ true e₃ h m₃ n₃)

          pub mal_counts : b₃ ≡ false → r.kind ≡ 8 → Tells (fault12 (rows_of pattern)) i (ltb r.s r.r)
          mal_counts n₃ k = record { is = λ h. sym (all h n₃ ∙ ap (λ (b : Bool). not (if b then leb r.r r.s else true)) (eq-eqb r.kind 8 k) ∙ sym (not_le r.s r.r)) }

          pub mal_not : b₃ ≡ false → (r.kind ≡ 8 → ⊥) → Tells (fault12 (rows_of pattern)) i (eqb r.kind 8)
          mal_not n₃ k = record { is = λ h. ne_eqb r.kind 8 k ∙ sym (all h n₃ ∙ ap (λ (b : Bool). not (if b then leb r.r r.s else true)) (ne_eqb r.kind 8 k)) }
