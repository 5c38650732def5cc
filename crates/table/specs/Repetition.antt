-- Edgeless rows, and how deep repetitions stand.
use Rattle.std.specs.Prelude.{◌≡◌, List, Bool, ℕ, ◌≤◌}
use Rattle.meaning.specs.Pattern.{edgeless, nesting}
use Rattle.meaning.specs.Table.{rows_of, item_at, as_pattern}

-- r tells whether the row's pattern can match without an edge
pub record Edgeless (pattern : List ℕ) (row : ℕ) (r : Bool) : Type 0 where
  pub is : r ≡ edgeless (as_pattern (item_at (rows_of pattern) row))

-- r is how many repetitions stand one in another in the row's pattern
pub record Depth (pattern : List ℕ) (row r : ℕ) : Type 0 where
  pub is : r ≡ nesting (as_pattern (item_at (rows_of pattern) row))
  pub small : r ≤ row
