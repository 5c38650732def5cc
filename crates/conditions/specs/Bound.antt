-- The elements of the variables, as far as they are known.
use Rattle.std.specs.Prelude.{◌≡◌, ℕ, ◌<◌, ◌≤◌, get_or, None, Option, Some}
use Rattle.std.proofs.Math.Option as math
use Rattle.std.proofs.Math.Option.{none, some}
use Rattle.compiled.specs.Elements.{element_of}
use Rattle.compiled.specs.declared.ids.Element as code
use Rattle.matcher.specs.Conditions.{element_at_lem}
use Rattle.matcher.specs.Views.{View, first_known_lem}
use Rattle.meaning.specs.Graph.{Element}
use Rattle.meaning.specs.Typing.{Found}
use Rattle.conditions.specs.declared.bound.Bound.{Bound}

abbrev pub binding_of : Option code.Element → math.Option Element
binding_of None = none
binding_of (Some x) = some (element_of x)

unfoldable pub bound_of : Bound → ℕ → math.Option Element
bound_of b x = binding_of (get_or b.slots x None)

-- nothing is known
pub record Unbound (b : Bound) : Type 0 where
  pub is : (x : ℕ) → bound_of b x ≡ none

-- r is b but for the binding of x
pub record Rebound (b : Bound) (x : ℕ) (k : Option code.Element) (r : Bound) : Type 0 where
  pub here : bound_of r x ≡ binding_of k
  pub other : (y : ℕ) → (y ≡ x → ⊥) → bound_of r y ≡ bound_of b y

-- b has the elements of the variables that have the types f and of which the words v are known
pub record Binds (b : Bound) (f : ℕ → Found) (v : View) : Type 0 where
  pub is : (x : ℕ) → 1 ≤ x → x < 9 → bound_of b x ≡ element_at_lem (f x) (first_known_lem (v x))
