-- What the causes before it leave to a check of rows.
use Rattle.std.specs.Prelude.{◌≡◌, List, Bool, ℕ, ◌-◌, ◌/◌, ◌<◌, ◌≤◌, length}
use Rattle.std.proofs.Math.Option.{none}
use Rattle.meaning.specs.Pattern.{nesting}
use Rattle.meaning.specs.Table.{rows_of, item_at, as_pattern, fault12, fault13, fault14, fault15, fault16, pattern_fault}
use Rattle.meaning.specs.Table.{Row as RowOf}
use Rattle.rows.specs.Faults.{Formed, Stands}
use Rattle.table.specs.declared.lowest.Fault.{Fault}
use Rattle.table.specs.declared.lowest.Fault.TheVariants.{Malformed, Loose, Edgeless, TooDeep, Untyped}

-- no row has more than two repetitions one in another
pub record Shallow (pattern : List ℕ) : Type 0 where
  pub ok : (i : ℕ) → i < length (rows_of pattern) → nesting (as_pattern (item_at (rows_of pattern) i)) ≤ 2

-- the row is a row of a table that is ready to be typed
pub record Typable (pattern : List ℕ) (row : ℕ) : Type 0 where
  pub stands : Stands pattern row
  pub shallow : Shallow pattern

-- a table that was accepted
pub record Checked (pattern : List ℕ) : Type 0 where
  pub long : 5 ≤ length pattern
  pub last : Typable pattern (length pattern / 5 - 1)
  pub no_fault : pattern_fault pattern ≡ none

-- the test of a fault
abbrev pub fault_by : Fault → List RowOf → ℕ → Bool
fault_by Malformed = fault12
fault_by Loose = fault13
fault_by Edgeless = fault14
fault_by TooDeep = fault15
fault_by Untyped = fault16

-- what the test of a fault may count on: the faults before it were found at no row
abbrev pub Ready : Fault → List ℕ → Type 0
Ready Malformed pattern = Unit {0}
Ready Loose pattern = Formed pattern
Ready Edgeless pattern = Formed pattern
Ready TooDeep pattern = Formed pattern
Ready Untyped pattern = Formed pattern × Shallow pattern

-- the refusal's number of a row with the fault
abbrev pub number_of_fault : Fault → ℕ
number_of_fault Malformed = 12
number_of_fault Loose = 13
number_of_fault Edgeless = 14
number_of_fault TooDeep = 15
number_of_fault Untyped = 16
