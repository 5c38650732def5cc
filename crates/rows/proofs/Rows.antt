-- The rows of a table's words: their number, and what stands in each.
use mathlib.Core.Option.{none}
use mathlib.Core.Path.{◌≡◌, refl, sym, ap, ◌∙◌}
use mathlib.Core.List.{List, [], ◌∷◌}
use Prim.Native.Nat.{ℕ, zero, suc, ◌+◌, ◌*◌, ◌/◌, ◌<◌, ◌≤◌}
use native.Mathlib.Omega.{arith}
use lib.ListN.{length, get_or}
use Rattle.meaning.proofs.Accepted.{clear}
use Rattle.meaning.proofs.Logic.{not_false}
use Rattle.meaning.specs.Table.{fault12, fine, form_at, no_row, row_cause, rows_of}
use Rattle.meaning.specs.Table.{Row as RowOf}
use Rattle.rows.specs.Faults.{Formed}
use Rattle.rows.specs.Rows.{Reads}

pub rows_length : (pattern : List ℕ) → length (rows_of pattern) ≡ length pattern / 5
unfolding rows_of
rows_length [] = refl
rows_length (k ∷ []) = refl
rows_length (k ∷ p ∷ []) = refl
rows_length (k ∷ p ∷ q ∷ []) = refl
rows_length (k ∷ p ∷ q ∷ r ∷ []) = refl
rows_length (k ∷ p ∷ q ∷ r ∷ s ∷ l) = omega (arith, rows_length l)

pub in_rows : (pattern : List ℕ) (i : ℕ) → i * 5 + 5 ≤ length pattern → i < length (rows_of pattern)
in_rows pattern i h = omega (arith, rows_length pattern)

module _ (k p q r s : ℕ) (l : List ℕ) where
  past : (n m : ℕ) → n ≡ suc (suc (suc (suc (suc m)))) → get_or (k ∷ p ∷ q ∷ r ∷ s ∷ l) n 0 ≡ get_or l m 0
  past n m e = ap (λ (j : ℕ). get_or (k ∷ p ∷ q ∷ r ∷ s ∷ l) j 0) e

made : {k k' p p' q q' r r' s s' : ℕ} → k ≡ k' → p ≡ p' → q ≡ q' → r ≡ r' → s ≡ s' →
    ◌≡◌ {A = RowOf} (record { kind = k; p = p; q = q; r = r; s = s }) (record { kind = k'; p = p'; q = q'; r = r'; s = s' })
made a b c d e = cc

rows_at : (pattern : List ℕ) (i : ℕ) → i * 5 + 5 ≤ length pattern →
    get_or (rows_of pattern) i no_row ≡ record { kind = get_or pattern (i * 5) 0; p = get_or pattern (i * 5 + 1) 0; q = get_or pattern (i * 5 + 2) 0; r = get_or pattern (i * 5 + 3) 0; s = get_or pattern (i * 5 + 4) 0 }
unfolding rows_of
rows_at [] i h = absurd (omega arith)
rows_at (k ∷ []) i h = absurd (omega arith)
rows_at (k ∷ p ∷ []) i h = absurd (omega arith)
rows_at (k ∷ p ∷ q ∷ []) i h = absurd (omega arith)
rows_at (k ∷ p ∷ q ∷ r ∷ []) i h = absurd (omega arith)
rows_at (k ∷ p ∷ q ∷ r ∷ s ∷ l) zero h = refl
rows_at (k ∷ p ∷ q ∷ r ∷ s ∷ l) (suc i) h =
    let g = past k p q r s l in
    rows_at l i (omega arith) ∙ made (sym (g (suc i * 5) (i * 5) (omega arith))) (sym (g (suc i * 5 + 1) (i * 5 + 1) (omega arith))) (sym (g (suc i * 5 + 2) (i * 5 + 2) (omega arith))) (sym (g (suc i * 5 + 3) (i * 5 + 3) (omega arith))) (sym (g (suc i * 5 + 4) (i * 5 + 4) (omega arith)))

-- the way out of row_at
pub reads : (pattern : List ℕ) (i k p q r s : ℕ) → i * 5 + 5 ≤ length pattern → k ≡ get_or pattern (i * 5) 0 → p ≡ get_or pattern (i * 5 + 1) 0 → q ≡ get_or pattern (i * 5 + 2) 0 → r ≡ get_or pattern (i * 5 + 3) 0 → s ≡ get_or pattern (i * 5 + 4) 0 →
    k < 65536 → p < 65536 → q < 65536 → r < 65536 → s < 65536 → Reads pattern i (record { kind = k; p = p; q = q; r = r; s = s })
reads pattern i k p q r s h e₀ e₁ e₂ e₃ e₄ b₀ b₁ b₂ b₃ b₄ =
    record { is = rows_at pattern i h ∙ made (sym e₀) (sym e₁) (sym e₂) (sym e₃) (sym e₄); kind_fits = b₀; p_fits = b₁; q_fits = b₂; r_fits = b₃; s_fits = b₄ }

-- with no row that 12 finds every row is formed
pub formed_by : (pattern : List ℕ) → row_cause (rows_of pattern) 12 (fault12 (rows_of pattern)) ≡ none → Formed pattern
unfolding fault12
formed_by pattern e = record { ok = λ i h. not_false (fine (rows_of pattern) i (form_at (rows_of pattern) i)) (clear (rows_of pattern) 12 (fault12 (rows_of pattern)) e i h) }
