-- Naming places, counted.
use Rattle.std.specs.Prelude.{◌≡◌, List, [], ◌∷◌, ℕ, ◌≤◌}
use Rattle.meaning.specs.Basics.{each}
use Rattle.meaning.specs.Table.{rows_of, form, form_at, names_of, times}

-- i stands at r places among the names
pub record Once (i p r : ℕ) : Type 0 where
  pub is : r ≡ times i (p ∷ [])
  pub small : r ≤ 1

-- the same for two names
pub record Twice (i p q r : ℕ) : Type 0 where
  pub is : r ≡ times i (p ∷ q ∷ [])
  pub small : r ≤ 2

-- row j names row i at r places
pub record Places (pattern : List ℕ) (j i r : ℕ) : Type 0 where
  pub is : r ≡ times i (names_of (form_at (rows_of pattern) j))
  pub small : r ≤ 2

-- row i is named at r places in all
pub record Named (pattern : List ℕ) (i r : ℕ) : Type 0 where
  pub is : r ≡ times i (each (rows_of pattern) (λ l. names_of (form l)))
