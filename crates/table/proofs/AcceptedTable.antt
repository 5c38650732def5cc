-- What an accepted table grants: every row may be gone into and typed, and no variable clashes.
use mathlib.Core.Path.{◌≡◌}
use mathlib.Core.List.{List}
use mathlib.Core.Option.{none}
use mathlib.Core.Bool.{not, ◌||◌}
use Prim.Native.Nat.{ℕ, ◌+◌, ◌*◌, ◌%◌, ◌<◌, ◌≤◌}
use native.Mathlib.Omega.{arith}
use lib.Dec.{eqb, ltb}
use lib.ListN.{length}
use borrow.Author.Tests.{eqb-true, eqb-false}
use Rattle.meaning.specs.Basics.{Cause, first_of, rowless}
use Rattle.meaning.specs.Typing.{type_of}
use Rattle.meaning.specs.Table.{rows_of, item_at, as_pattern, fault12, fault13, fault14, fault15, fault16, row_cause, table_fault, pattern_fault, pattern_of, bad_length}
use Rattle.meaning.proofs.Logic.{not_false, or_false_l, or_false_r}
use Rattle.meaning.proofs.Causes.{first_none, whole_none}
use Rattle.meaning.proofs.Accepted.{clear, table_accepted}
use Rattle.meaning.proofs.Accepted.{Accepted as AcceptedPattern}
use Rattle.rows.specs.Faults.{Formed, Stands}
use Rattle.table.specs.Typing.{plain_at}
use Rattle.table.specs.Ready.{Checked}
use Rattle.rows.proofs.Rows.{formed_by, in_rows, rows_length}
use Rattle.table.proofs.TypedRows.{plain_typed}
use Rattle.table.proofs.FirstFault.{shallow_by}

module _ (pattern : List ℕ) (e : pattern_fault pattern ≡ none) where
  pub no_causes : (rowless 11 (bad_length pattern) ≡ none) × (table_fault (rows_of pattern) ≡ none)
  unfolding pattern_fault
  no_causes = first_none (rowless 11 (bad_length pattern)) (table_fault (rows_of pattern)) e

  long : 5 ≤ length pattern
  unfolding bad_length
  long =
      let b = whole_none 11 (bad_length pattern) no_causes.0 in
      let m : length pattern % 5 ≡ 0 = eqb-true (length pattern % 5) 0 (not_false (eqb (length pattern % 5) 0) (or_false_l _ (eqb (length pattern) 0 || ltb 320 (length pattern)) b)) in
      let n : length pattern ≡ 0 → ⊥ = eqb-false (length pattern) 0 (or_false_l _ (ltb 320 (length pattern)) (or_false_r (not (eqb (length pattern % 5) 0)) _ b)) in
      omega arith

  row_causes : (row_cause (rows_of pattern) 12 (fault12 (rows_of pattern)) ≡ none) × ((row_cause (rows_of pattern) 15 (fault15 (rows_of pattern)) ≡ none) × (row_cause (rows_of pattern) 16 (fault16 (rows_of pattern)) ≡ none))
  unfolding table_fault
  row_causes =
      let c₁₆ : Cause = row_cause (rows_of pattern) 16 (fault16 (rows_of pattern)) in
      let c₁₅ : Cause = first_of (row_cause (rows_of pattern) 15 (fault15 (rows_of pattern))) c₁₆ in
      let c₁₄ : Cause = first_of (row_cause (rows_of pattern) 14 (fault14 (rows_of pattern))) c₁₅ in
      let a = first_none (row_cause (rows_of pattern) 12 (fault12 (rows_of pattern))) (first_of (row_cause (rows_of pattern) 13 (fault13 (rows_of pattern))) c₁₄) no_causes.1 in
      let b = first_none (row_cause (rows_of pattern) 13 (fault13 (rows_of pattern))) c₁₄ a.1 in
      let c = first_none (row_cause (rows_of pattern) 14 (fault14 (rows_of pattern))) c₁₅ b.1 in
      let d = first_none (row_cause (rows_of pattern) 15 (fault15 (rows_of pattern))) c₁₆ c.1 in
      (a.0, (d.0, d.1))

  formed : Formed pattern
  formed = formed_by pattern row_causes.0

  pub accepted_checked : Checked pattern
  accepted_checked = record { long = long; last = record { stands = record { room = omega (arith, long); formed = formed }; shallow = shallow_by pattern formed row_causes.1.0 }; no_fault = e }

  -- where all is accepted, typing that leaves conditions aside is typing, in every row
  plain_in : (i : ℕ) → i < length (rows_of pattern) → (y : ℕ) → plain_at pattern i y ≡ type_of (as_pattern (item_at (rows_of pattern) i)) y
  plain_in i k = plain_typed pattern formed.ok i k (λ j l. clear (rows_of pattern) 16 (fault16 (rows_of pattern)) row_causes.1.1 j (omega arith))

pub plain_checked : (pattern : List ℕ) → Checked pattern → (i : ℕ) → i * 5 + 5 ≤ length pattern → (y : ℕ) → plain_at pattern i y ≡ type_of (as_pattern (item_at (rows_of pattern) i)) y
plain_checked pattern k i l = plain_in pattern k.no_fault i (in_rows pattern i l)

-- every row of an accepted table may be gone into
pub stands_checked : (pattern : List ℕ) (i : ℕ) → Checked pattern → i * 5 + 5 ≤ length pattern → Stands pattern i
stands_checked pattern i k l = record { room = l; formed = formed pattern k.no_fault }

-- what the pattern of an accepted table is
pub accepted_pattern : (pattern : List ℕ) → Checked pattern → AcceptedPattern (pattern_of pattern)
unfolding pattern_of
accepted_pattern pattern k = table_accepted (rows_of pattern) (omega (arith, rows_length pattern, long pattern k.no_fault)) (no_causes pattern k.no_fault).1
