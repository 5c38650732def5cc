-- The test of a fault, and the loop that looks for the lowest row with it.
use mathlib.Core.Path.{◌≡◌, refl, sym, ap, ◌∙◌}
use mathlib.Core.List.{List}
use mathlib.Core.Option.{Option, none, some}
use mathlib.Core.Bool.{Bool, true, false}
use Prim.Native.Nat.{ℕ, ◌+◌, ◌*◌, ◌/◌, ◌<◌, ◌≤◌}
use native.Mathlib.Omega.{arith}
use lib.Dec.{eqb}
use lib.ListN.{length}
use borrow.Author.Tests.{eqb-true, eqb-false}
use Rattle.meaning.specs.Basics.{lowest}
use Rattle.meaning.specs.Table.{rows_of, fault12, fault13, fault14, fault15, fault16}
use Rattle.meaning.specs.Table.{Row as RowOf}
use Rattle.meaning.proofs.Logic.{no_true}
use Rattle.meaning.proofs.Causes.{lowest_some, lowest_found}
use Rattle.rows.specs.Faults.{Tells, Formed, Stands}
use Rattle.table.specs.Ready.{Typable, Ready, fault_by}
use Rattle.table.specs.declared.lowest.Fault.{Fault}
use Rattle.table.specs.declared.lowest.Fault.TheVariants.{Malformed, Loose, Edgeless, TooDeep, Untyped}
use Rattle.rows.proofs.Rows.{rows_length}

-- ------------------------------------------------------------------ is_faulty
module _ (x : Fault) (pattern : List ℕ) (i : ℕ) (h : Ready x pattern) (l : i * 5 + 5 ≤ length pattern) where
  pub formed_loose : x ≡ Loose → Formed pattern
  formed_loose e = rw e at h

  pub stands_edgeless : x ≡ Edgeless → Stands pattern i
  stands_edgeless e = record { room = l; formed = rw e at h }

  pub stands_deep : x ≡ TooDeep → Stands pattern i
  stands_deep e = record { room = l; formed = rw e at h }

  pub typable_untyped : x ≡ Untyped → Typable pattern i
  typable_untyped e = let k : Ready Untyped pattern = rw e at h in record { stands = record { room = l; formed = k.0 }; shallow = k.1 }

module _ (x : Fault) (rows : List RowOf) (i : ℕ) (b : Bool) where
  pub tells_malformed : x ≡ Malformed → Tells (fault12 rows) i b → Tells (fault_by x rows) i b
  tells_malformed e h = rw e h

  pub tells_loose : x ≡ Loose → b ≡ fault13 rows i → Tells (fault_by x rows) i b
  tells_loose e h = rw e (record { is = λ c. h })

  pub tells_edgeless : x ≡ Edgeless → b ≡ fault14 rows i → Tells (fault_by x rows) i b
  tells_edgeless e h = rw e (record { is = λ c. h })

  pub tells_deep : x ≡ TooDeep → b ≡ fault15 rows i → Tells (fault_by x rows) i b
  tells_deep e h = rw e (record { is = λ c. h })

  pub tells_untyped : x ≡ Untyped → Tells (fault16 rows) i b → Tells (fault_by x rows) i b
  tells_untyped e h = rw e h

-- ------------------------------------------------------------------ lowest_faulty
pub record Scanning (f : ℕ → Bool) (n i : ℕ) : Type 0 where
  pub upto : i ≤ n
  pub clean : (j : ℕ) → j < i → f j ≡ false

lowest_clear : (n : ℕ) (f : ℕ → Bool) → ((j : ℕ) → j < n → f j ≡ false) → lowest n 0 f ≡ none
lowest_clear n f h = go (lowest n 0 f) refl
  where
    go : (o : Option ℕ) → lowest n 0 f ≡ o → o ≡ none
    go none e = refl
    go (some k) e = let z = lowest_some n 0 f k e in no_true (sym z.2 ∙ h k (omega (arith, z.1)))

module _ (x : Fault) (pattern : List ℕ) where
  abbrev F : ℕ → Bool
  F = fault_by x (rows_of pattern)

  pub scan_none : Scanning F (length (rows_of pattern)) 0
  scan_none = record { upto = omega arith; clean = λ j k. absurd (omega arith) }

  module _ (i rows : ℕ) (e : rows ≡ length pattern / 5) (s : Scanning F (length (rows_of pattern)) i) where
    pub scan_more : (b : Bool) → i < rows → Tells F i b → b ≡ false → Scanning F (length (rows_of pattern)) (i + 1)
    scan_more b l h n = record { upto = omega (arith, rows_length pattern); clean = λ j k. at j k (eqb j i) refl }
      where
        at : (j : ℕ) → j < i + 1 → (c : Bool) → eqb j i ≡ c → F j ≡ false
        at j k true q = ap F (eqb-true j i q) ∙ sym (h.is s.clean) ∙ n
        at j k false q = let z : j ≡ i → ⊥ = eqb-false j i q in s.clean j (omega arith)

    pub scan_hit : (b : Bool) → i < rows → Tells F i b → b ≡ true → some i ≡ lowest (length (rows_of pattern)) 0 F
    scan_hit b l h y = sym (lowest_found (length (rows_of pattern)) 0 F i (omega arith) (omega (arith, rows_length pattern)) (sym (h.is s.clean) ∙ y) (λ j a k. s.clean j k))

    pub scan_end : rows ≤ i → none ≡ lowest (length (rows_of pattern)) 0 F
    scan_end l = sym (lowest_clear (length (rows_of pattern)) F (λ j k. s.clean j (omega (arith, rows_length pattern))))
