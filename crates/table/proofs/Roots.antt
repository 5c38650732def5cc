-- The root, the last row of an accepted table: it stands, and it is the pattern of the table.
use mathlib.Core.Path.{◌≡◌, ap}
use mathlib.Core.List.{List}
use mathlib.Core.Option.{none}
use Prim.Native.Nat.{ℕ, ◌+◌, ◌-◌, ◌*◌, ◌/◌, ◌≤◌}
use native.Mathlib.Omega.{arith}
use lib.ListN.{length}
use Rattle.meaning.proofs.Accepted.{Accepted}
use Rattle.meaning.specs.Table.{pattern_fault, pattern_of, table_pattern}
use Rattle.rows.proofs.Rows.{rows_length}
use Rattle.rows.specs.Faults.{Stands}
use Rattle.table.proofs.AcceptedTable.{accepted_checked, accepted_pattern, stands_checked}
use Rattle.table.specs.Variables.{pattern_at_lem}

module _ (pattern : List ℕ) (ok : pattern_fault pattern ≡ none) where
  pub root_long : 5 ≤ length pattern
  root_long = (accepted_checked pattern ok).long

  pub root_room : (length pattern / 5 - 1) * 5 + 5 ≤ length pattern
  root_room = omega (arith, root_long)

  pub root_stands : Stands pattern (length pattern / 5 - 1)
  root_stands = stands_checked pattern (length pattern / 5 - 1) (accepted_checked pattern ok) root_room

  pub root_pattern : pattern_at_lem pattern (length pattern / 5 - 1) ≡ pattern_of pattern
  unfolding pattern_of table_pattern
  root_pattern = ap (pattern_at_lem pattern) (omega (arith, rows_length pattern))

  pub root_accepted : Accepted (pattern_of pattern)
  root_accepted = accepted_pattern pattern (accepted_checked pattern ok)
