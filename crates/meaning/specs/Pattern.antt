-- 000, Figure 1: conditions and patterns, and what 01 asks of a repetition's body.
use Rattle.std.specs.Prelude.{◌≡◌, List, [], ◌∷◌, ◌++◌, Bool, true, false, ◌&&◌, ◌||◌, ℕ, suc, eqb}
use Rattle.std.proofs.Math.Option.{Option, none, some}
use Rattle.meaning.specs.Basics.{max}
use Rattle.meaning.specs.Graph.{Direction}

-- θ: x.a = c, x.a = y.b, and, or, not
pub data Condition : Type 0 where
  equals_constant : ℕ → ℕ → ℕ → Condition
  equals_property : ℕ → ℕ → ℕ → ℕ → Condition
  and or : Condition → Condition → Condition
  neg : Condition → Condition

-- π: an optional variable and an optional label in nodes and edges; no greatest count is none
pub data Pattern : Type 0 where
  node : Option ℕ → Option ℕ → Pattern
  edge : Direction → Option ℕ → Option ℕ → Pattern
  union concatenation : Pattern → Pattern → Pattern
  conditioned : Pattern → Condition → Pattern
  repetition : Pattern → ℕ → Option ℕ → Pattern

-- x ∈ var(π): x is used in π, in a condition too
unfoldable pub named : Option ℕ → ℕ → Bool
named none x = false
named (some y) x = eqb y x

unfoldable pub in_condition : Condition → ℕ → Bool
in_condition (equals_constant y k c) x = eqb y x
in_condition (equals_property y k z l) x = eqb y x || eqb z x
in_condition (and s t) x = in_condition s x || in_condition t x
in_condition (or s t) x = in_condition s x || in_condition t x
in_condition (neg s) x = in_condition s x

unfoldable pub in_var : Pattern → ℕ → Bool
in_var (node y l) x = named y x
in_var (edge d y l) x = named y x
in_var (union a b) x = in_var a x || in_var b x
in_var (concatenation a b) x = in_var a x || in_var b x
in_var (conditioned a θ) x = in_var a x || in_condition θ x
in_var (repetition a n m) x = in_var a x

-- var(π) as a list
unfoldable pub name_list : Option ℕ → List ℕ
name_list none = []
name_list (some x) = x ∷ []

unfoldable pub condition_vars : Condition → List ℕ
condition_vars (equals_constant x k c) = x ∷ []
condition_vars (equals_property x k y l) = x ∷ y ∷ []
condition_vars (and s t) = condition_vars s ++ condition_vars t
condition_vars (or s t) = condition_vars s ++ condition_vars t
condition_vars (neg s) = condition_vars s

unfoldable pub vars : Pattern → List ℕ
vars (node x l) = name_list x
vars (edge d x l) = name_list x
vars (union a b) = vars a ++ vars b
vars (concatenation a b) = vars a ++ vars b
vars (conditioned a θ) = vars a ++ condition_vars θ
vars (repetition a n m) = vars a

-- 01, 'Edgeless bodies': the pattern can match without an edge
unfoldable pub edgeless : Pattern → Bool
edgeless (node x l) = true
edgeless (edge d x l) = false
edgeless (union a b) = edgeless a || edgeless b
edgeless (concatenation a b) = edgeless a && edgeless b
edgeless (conditioned a θ) = edgeless a
edgeless (repetition a n m) = eqb n 0

-- no repetition stands over a body that can match without an edge
abbrev pub Sound : Pattern → Type 0
Sound (node x l) = Unit {0}
Sound (edge d x l) = Unit {0}
Sound (union a b) = Sound a × Sound b
Sound (concatenation a b) = Sound a × Sound b
Sound (conditioned a θ) = Sound a
Sound (repetition a n m) = Sound a × (edgeless a ≡ false)

-- how many repetitions stand one in another
unfoldable pub nesting : Pattern → ℕ
nesting (node x l) = 0
nesting (edge d x l) = 0
nesting (union a b) = max (nesting a) (nesting b)
nesting (concatenation a b) = max (nesting a) (nesting b)
nesting (conditioned a θ) = nesting a
nesting (repetition a n m) = suc (nesting a)
