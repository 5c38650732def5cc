-- The variables of each row of an accepted table and their types, as numbers in lent memory.
use Rattle.std.specs.Prelude.{◌≡◌, List, [], ◌∷◌, ℕ, ◌+◌, ◌*◌, ◌/◌, ◌%◌, ◌^◌, ◌<◌, ◌≤◌, length}
use Rattle.meaning.specs.Basics.{each, up_from, eight}
use Rattle.meaning.specs.Pattern.{Pattern, in_var}
use Rattle.meaning.specs.Typing.{type_of}
use Rattle.meaning.specs.Table.{rows_of, item_at, as_pattern}
use Rattle.meaning.specs.Report.{bit}
use Rattle.typecode.specs.Codes.{code_of}
use Rattle.table.specs.Ready.{Checked}

-- the bit of x
pub record One (x r : ℕ) : Type 0 where
  pub is : r ≡ 2 ^ x
  pub small : r ≤ 256

-- the row is a row of an accepted table
pub record Within (pattern : List ℕ) (row : ℕ) : Type 0 where
  pub accepted : Checked pattern
  pub room : row * 5 + 5 ≤ length pattern

-- the pattern that a row stands for
abbrev pub pattern_at_lem : List ℕ → ℕ → Pattern
pattern_at_lem t i = as_pattern (item_at (rows_of t) i)

-- the variables of a list that a pattern uses, as bits
unfoldable pub mask_of : Pattern → List ℕ → ℕ
mask_of π [] = 0
mask_of π (x ∷ xs) = bit (in_var π x) * 2 ^ x + mask_of π xs

-- the variables of row i; and the type of variable k % 8 + 1 in row k / 8
unfoldable pub variables_at_lem : List ℕ → ℕ → ℕ
variables_at_lem t i = mask_of (pattern_at_lem t i) eight

unfoldable pub type_at : List ℕ → ℕ → ℕ
type_at t k = code_of (type_of (pattern_at_lem t (k / 8)) (k % 8 + 1))

-- the first n numbers of a kind
unfoldable pub list_of : (ℕ → ℕ) → ℕ → List ℕ
list_of f n = each (up_from n 0) (λ i. f i ∷ [])

-- r is the type of x in the row
pub record HasType (pattern : List ℕ) (row x r : ℕ) : Type 0 where
  pub is : r ≡ code_of (type_of (pattern_at_lem pattern row) x)
  pub small : r < 262144

-- r is the bit of x where the row uses it, and 0 where not
pub record Weight (pattern : List ℕ) (row x r : ℕ) : Type 0 where
  pub is : r ≡ bit (in_var (pattern_at_lem pattern row) x) * 2 ^ x
  pub small : r ≤ 256

-- r are the variables of the row, as bits
pub record HasVariables (pattern : List ℕ) (row r : ℕ) : Type 0 where
  pub is : r ≡ variables_at_lem pattern row
