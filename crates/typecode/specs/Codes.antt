-- A type as one number, its outermost constructor in the lowest digit to base 8; 0 not used, 7 no type.
use Rattle.std.specs.Prelude.{◌≡◌, Bool, ℕ, ◌+◌, ◌*◌}
use Rattle.meaning.specs.Pattern.{named}
use Rattle.meaning.specs.Table.{unless}
use Rattle.meaning.specs.Typing.{Ty, Node, Edge, Maybe, Group, Found, absent, clash, typed, opt, single, union_ty, concatenation_ty, repetition_ty, named_ty}

unfoldable pub ty_code : Ty → ℕ
ty_code Node = 1
ty_code Edge = 2
ty_code (Maybe τ) = 8 * ty_code τ + 3
ty_code (Group τ) = 8 * ty_code τ + 4

unfoldable pub code_of : Found → ℕ
code_of absent = 0
code_of clash = 7
code_of (typed τ) = ty_code τ

-- What the functions on these numbers answer, for the numbers of types.
-- τ?
pub record Opts (a r : ℕ) : Type 0 where
  pub is : (τ : Ty) → a ≡ ty_code τ → r ≡ ty_code (opt τ)

-- a variable that both parts of a union type
pub record BothTyped (a b r : ℕ) : Type 0 where
  pub is : (τ σ : Ty) → a ≡ ty_code τ → b ≡ ty_code σ → r ≡ code_of (union_ty (typed τ) (typed σ))

-- a variable in a union
pub record Unites (a b r : ℕ) : Type 0 where
  pub is : (f g : Found) → a ≡ code_of f → b ≡ code_of g → r ≡ code_of (union_ty f g)

-- a variable in a concatenation
pub record Joins (a b r : ℕ) : Type 0 where
  pub is : (f g : Found) → a ≡ code_of f → b ≡ code_of g → r ≡ code_of (concatenation_ty f g)

-- a variable in a repetition
pub record Repeats (a r : ℕ) : Type 0 where
  pub is : (f : Found) → a ≡ code_of f → r ≡ code_of (repetition_ty f)

-- whether the type is Node or Edge
pub record Singles (a : ℕ) (r : Bool) : Type 0 where
  pub is : (f : Found) → a ≡ code_of f → r ≡ single f

-- the type of x in a leaf that names y
pub record Names (y x a r : ℕ) : Type 0 where
  pub is : (τ : Ty) → a ≡ ty_code τ → r ≡ code_of (named_ty τ (named (unless 0 y) x))
