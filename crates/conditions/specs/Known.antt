-- The elements of the variables, from known words. ks are the known words of a record, and a place past them is not known.
use Rattle.std.specs.Prelude.{◌≡◌, List, Option, ℕ, ◌<◌, ◌≤◌, get_or}
use Rattle.std.proofs.Math.Option.{none}
use Rattle.matcher.specs.Conditions.{element_at_lem, element_of}
use Rattle.matcher.specs.Views.{View, first_known_lem}
use Rattle.matcher.proofs.Places.{view_at}
use Rattle.meaning.specs.Typing.{Edge, Found, Node, typed}
use Rattle.compiled.specs.declared.ids.Element.{Element}
use Rattle.conditions.specs.declared.bound.Bound.{Bound}
use Rattle.conditions.specs.Bound.{Binds, binding_of}

-- a type's number tells Node and Edge from the types whose values are no element
pub record Codes (code : ℕ) (f : Found) : Type 0 where
  pub node : code ≡ 1 → f ≡ typed Node
  pub edge : code ≡ 2 → f ≡ typed Edge
  pub other : (code ≡ 1 → ⊥) → (code ≡ 2 → ⊥) → (w : ℕ) → element_of f w ≡ none

-- ------------------------------------------------------------------ answers
-- r is the element that the word w is
pub record BindsWord (code w : ℕ) (r : Option Element) : Type 0 where
  pub is : (f : Found) → Codes code f → binding_of r ≡ element_of f w

-- r is the element of the value at place, where its word is known
pub record BindsAt (ks : List ℕ) (code place : ℕ) (r : Option Element) : Type 0 where
  pub is : (f : Found) → Codes code f → binding_of r ≡ element_at_lem f (first_known_lem (view_at ks place))

abbrev pub views_at : List ℕ → List ℕ → View
views_at ks places x = view_at ks (get_or places x 0)

-- r has the element of each variable whose word is known
pub record BindsWords (ks types places : List ℕ) (r : Bound) : Type 0 where
  pub is : (f : ℕ → Found) → ((x : ℕ) → 1 ≤ x → x < 9 → Codes (get_or types x 0) (f x)) → Binds r f (views_at ks places)
