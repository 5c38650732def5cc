-- What a check of rows tells of a fault, and a table with no malformed row.
use Rattle.std.specs.Prelude.{◌≡◌, List, Bool, true, false, ℕ, ◌+◌, ◌*◌, ◌<◌, ◌≤◌, length}
use Rattle.meaning.specs.Table.{rows_of, form_at, fine}

-- r tells whether row i has the fault, where no lower row has it
pub record Tells (fault : ℕ → Bool) (i : ℕ) (r : Bool) : Type 0 where
  pub is : ((j : ℕ) → j < i → fault j ≡ false) → r ≡ fault i

-- no row is malformed
pub record Formed (pattern : List ℕ) : Type 0 where
  pub ok : (i : ℕ) → i < length (rows_of pattern) → fine (rows_of pattern) i (form_at (rows_of pattern) i) ≡ true

-- the row is a row of the table, and no row is malformed
pub record Stands (pattern : List ℕ) (row : ℕ) : Type 0 where
  pub room : row * 5 + 5 ≤ length pattern
  pub formed : Formed pattern
