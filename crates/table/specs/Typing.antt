-- Typing that leaves conditions aside, and what the functions on rows answer by it.
use Rattle.std.specs.Prelude.{◌≡◌, List, Bool, true, ℕ, ◌<◌}
use Rattle.meaning.specs.Basics.{eight}
use Rattle.meaning.specs.Pattern.{Pattern, node, edge, union, concatenation, conditioned, repetition, named}
use Rattle.meaning.specs.Typing.{Found, Node, Edge, fits, union_ty, concatenation_ty, repetition_ty, named_ty}
use Rattle.meaning.specs.Table.{rows_of, form_at, item_at, as_pattern, as_condition, condition_form, any_of, is_clash_lem}
use Rattle.typecode.specs.Codes.{code_of}

-- the type of x where every condition fits
unfoldable pub plain_of : Pattern → ℕ → Found
plain_of (node y l) x = named_ty Node (named y x)
plain_of (edge d y l) x = named_ty Edge (named y x)
plain_of (union a b) x = union_ty (plain_of a x) (plain_of b x)
plain_of (concatenation a b) x = concatenation_ty (plain_of a x) (plain_of b x)
plain_of (conditioned a θ) x = plain_of a x
plain_of (repetition a n m) x = repetition_ty (plain_of a x)

abbrev pub plain_at : List ℕ → ℕ → ℕ → Found
plain_at t row x = plain_of (as_pattern (item_at (rows_of t) row)) x

-- r is the type of x in the row, conditions aside
pub record TypeIs (pattern : List ℕ) (row x r : ℕ) : Type 0 where
  pub is : r ≡ code_of (plain_at pattern row x)
  pub small : r < 262144

-- r tells whether the condition of the row names only variables that the part types Node or Edge
pub record FitsAt (pattern : List ℕ) (part row : ℕ) (r : Bool) : Type 0 where
  pub is : condition_form (form_at (rows_of pattern) row) ≡ true → r ≡ fits (plain_at pattern part) (as_condition (item_at (rows_of pattern) row))

-- r tells whether a variable of the row has no type
pub record Clashes (pattern : List ℕ) (row : ℕ) (r : Bool) : Type 0 where
  pub is : r ≡ any_of eight (λ x. is_clash_lem (plain_at pattern row x))
