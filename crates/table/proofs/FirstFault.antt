-- The first cause that holds, from what the parts of the check answered.
use mathlib.Core.Path.{◌≡◌, sym, ◌∙◌}
use mathlib.Core.List.{List}
use mathlib.Core.Option.{none, some}
use mathlib.Core.Bool.{true}
use Prim.Native.Nat.{ℕ, ◌%◌, ◌<◌, ◌≤◌}
use lib.ListN.{length}
use borrow.Author.Tests.{eq-eqb, ne_eqb, lt-ltb, le-ltb}
use Rattle.meaning.specs.Basics.{Cause, first_of, rowless, at_row, lowest}
use Rattle.meaning.specs.Table.{rows_of, fault12, fault13, fault14, fault15, fault16, row_cause, table_fault, bad_length, pattern_fault}
use Rattle.meaning.proofs.Accepted.{clear}
use Rattle.meaning.proofs.Bodies.{deep_all}
use Rattle.rows.specs.Faults.{Formed}
use Rattle.std.specs.Prelude.{Option, Some, None, Result, Ok, Err, ⊤}
use Rattle.table.specs.Ready.{Shallow, fault_by, number_of_fault}
use Rattle.table.specs.Verdict.{cause_of, told_of}
use Rattle.table.specs.declared.causes.Refusal.{Refusal}
use Rattle.table.specs.declared.lowest.Fault.{Fault}
use Rattle.words.specs.Fault.{found_row}
use Rattle.rows.proofs.Rows.{formed_by}

-- 15 found nothing: no row is too deep
pub shallow_by : (pattern : List ℕ) → Formed pattern → row_cause (rows_of pattern) 15 (fault15 (rows_of pattern)) ≡ none → Shallow pattern
shallow_by pattern f e = record { ok = deep_all (rows_of pattern) f.ok (clear (rows_of pattern) 15 (fault15 (rows_of pattern)) e) }

-- ------------------------------------------------------------------ check_fault
-- o is what was found of the fault
module _ (pattern : List ℕ) (x : Fault) (o : Option ℕ) (h : found_row o ≡ lowest (length (rows_of pattern)) 0 (fault_by x (rows_of pattern))) where
  pub fault_found : (i : ℕ) → o ≡ Some i → some (number_of_fault x, i) ≡ row_cause (rows_of pattern) (number_of_fault x) (fault_by x (rows_of pattern))
  unfolding row_cause at_row
  fault_found i e = rw (← h, e)

  pub no_fault : o ≡ None → none ≡ row_cause (rows_of pattern) (number_of_fault x) (fault_by x (rows_of pattern))
  unfolding row_cause at_row
  no_fault e = rw (← h, e)

-- ------------------------------------------------------------------ check_rows
module _ (pattern : List ℕ) (p : Result ⊤ Refusal) where
  pub all_formed : cause_of p ≡ row_cause (rows_of pattern) 12 (fault12 (rows_of pattern)) → p ≡ Ok tt → Formed pattern
  all_formed h e = formed_by pattern (rw (← h, e))

  pub all_shallow : Formed pattern → cause_of p ≡ row_cause (rows_of pattern) 15 (fault15 (rows_of pattern)) → p ≡ Ok tt → Shallow pattern
  all_shallow f h e = shallow_by pattern f (rw (← h, e))

-- p, q, r and s are what the checks of the faults 12 to 15 told
module _ (pattern : List ℕ) (p : Result ⊤ Refusal) (hp : cause_of p ≡ row_cause (rows_of pattern) 12 (fault12 (rows_of pattern))) where
  pub malformed_row : (e : Refusal) → p ≡ Err e → some (told_of e) ≡ table_fault (rows_of pattern)
  unfolding table_fault first_of
  malformed_row e k = rw (← hp, k)

  module _ (ep : p ≡ Ok tt) (q : Result ⊤ Refusal) (hq : cause_of q ≡ row_cause (rows_of pattern) 13 (fault13 (rows_of pattern))) where
    pub loose_row : (e : Refusal) → q ≡ Err e → some (told_of e) ≡ table_fault (rows_of pattern)
    unfolding table_fault first_of
    loose_row e k = rw (← hp, ep, ← hq, k)

    module _ (eq : q ≡ Ok tt) (r : Result ⊤ Refusal) (hr : cause_of r ≡ row_cause (rows_of pattern) 14 (fault14 (rows_of pattern))) where
      pub edgeless_row : (e : Refusal) → r ≡ Err e → some (told_of e) ≡ table_fault (rows_of pattern)
      unfolding table_fault first_of
      edgeless_row e k = rw (← hp, ep, ← hq, eq, ← hr, k)

      module _ (er : r ≡ Ok tt) (s : Result ⊤ Refusal) (hs : cause_of s ≡ row_cause (rows_of pattern) 15 (fault15 (rows_of pattern))) where
        pub deep_row : (e : Refusal) → s ≡ Err e → some (told_of e) ≡ table_fault (rows_of pattern)
        unfolding table_fault first_of
        deep_row e k = rw (← hp, ep, ← hq, eq, ← hr, er, ← hs, k)

        pub by_types : s ≡ Ok tt → (c : Cause) → c ≡ row_cause (rows_of pattern) 16 (fault16 (rows_of pattern)) → c ≡ table_fault (rows_of pattern)
        unfolding table_fault first_of
        by_types k c h = h ∙ rw (← hp, ep, ← hq, eq, ← hr, er, ← hs, k)

-- ------------------------------------------------------------------ check
module _ (pattern : List ℕ) where
  length_bad : bad_length pattern ≡ true → some (11, 0) ≡ pattern_fault pattern
  unfolding pattern_fault rowless first_of
  length_bad e = rw e

  pub check_partial : (length pattern % 5 ≡ 0 → ⊥) → some (11, 0) ≡ pattern_fault pattern
  unfolding bad_length
  check_partial n = length_bad (rw (ne_eqb (length pattern % 5) 0 n))

  pub check_empty : length pattern % 5 ≡ 0 → length pattern ≡ 0 → some (11, 0) ≡ pattern_fault pattern
  unfolding bad_length
  check_empty e z = length_bad (rw (eq-eqb (length pattern % 5) 0 e, eq-eqb (length pattern) 0 z))

  pub check_long : length pattern % 5 ≡ 0 → (length pattern ≡ 0 → ⊥) → 320 < length pattern → some (11, 0) ≡ pattern_fault pattern
  unfolding bad_length
  check_long e n l = length_bad (rw (eq-eqb (length pattern % 5) 0 e, ne_eqb (length pattern) 0 n, lt-ltb 320 (length pattern) l))

  pub check_table : (c : Cause) → length pattern % 5 ≡ 0 → (length pattern ≡ 0 → ⊥) → length pattern ≤ 320 → c ≡ table_fault (rows_of pattern) → c ≡ pattern_fault pattern
  unfolding pattern_fault bad_length rowless first_of
  check_table c e n l q = q ∙ sym (rw (eq-eqb (length pattern % 5) 0 e, ne_eqb (length pattern) 0 n, le-ltb 320 (length pattern) l))
