-- 000, Section 5: values, assignments, and when an assignment satisfies a condition.
use Rattle.std.specs.Prelude.{◌≡◌, List, [], ◌∷◌, ◌⊎◌, ℕ, suc, ◌<◌, ◌≤◌, eqb, if◌then◌else◌}
use Rattle.std.proofs.Math.Option.{Option, none, some}
use Rattle.std.proofs.Math.Decide.{ℕ_discrete}
use Rattle.meaning.specs.Basics.{or_else}
use Rattle.meaning.specs.Graph.{Element, the_node, the_edge, Element-discrete, Graph, Walk, Walk-discrete}
use Rattle.meaning.specs.Pattern.{Condition, equals_constant, equals_property, and, or, neg, Pattern, in_var}
use Rattle.meaning.specs.Typing.{Ty, Node, Edge, Maybe, Group, Found, absent, clash, typed}
use Rattle.meaning.specs.Truth.{Truth, Unknown, decided, negation, conjunction, disjunction}

infixl 65 ◌∪◌
mutual
  -- a node or an edge, Nothing, or a group
  pub data Value : Type 0 where
    one : Element → Value
    nothing : Value
    group : Entries → Value
    deriving Discrete as Value-discrete

  -- what a group lists: each factor's path with its value, in walk order
  pub data Entries : Type 0 where
    no_entry : Entries
    entry : Walk → Value → Entries → Entries

unfoldable pub Value-dec : Discrete Value
Value-dec = Value-discrete (Element-discrete ℕ_discrete) (Walk-discrete ℕ_discrete)

unfoldable pub count : Entries → ℕ
count no_entry = 0
count (entry p v g) = suc (count g)

-- a partial function from variables to values
abbrev pub Assignment : Type 0
Assignment = ℕ → Option Value

unfoldable pub bind : Option ℕ → Value → Assignment
bind none v x = none
bind (some y) v x = if eqb y x then some v else none

-- μ and ν unify; and their unification (A: the values of a pattern's variables, or of a query's)
abbrev pub Unify : {A : Type 0} → (ℕ → Option A) → (ℕ → Option A) → Type 0
Unify {A} μ ν = (x : ℕ) (v w : A) → μ x ≡ some v → ν x ≡ some w → v ≡ w

unfoldable pub ◌∪◌ : {A : Type 0} → (ℕ → Option A) → (ℕ → Option A) → ℕ → Option A
◌∪◌ μ ν x = or_else (μ x) (ν x)

-- Nothing for each variable of π that μ does not bind
unfoldable pub fill : Pattern → Assignment → Assignment
fill π μ x = or_else (μ x) (if in_var π x then some nothing else none)

-- a factor of a repetition: a path and its assignment
abbrev pub Factor : Type 0
Factor = Walk × Assignment

unfoldable pub path_of_lem : Factor → Walk
path_of_lem f = f.0

-- a factor binds every variable of its pattern (Proposition 9), so that none is met at no variable of a group
unfoldable pub value_of : Option Value → Value
value_of none = nothing
value_of (some v) = v

unfoldable pub entries : ℕ → List Factor → Entries
entries x [] = no_entry
entries x (f ∷ fs) = entry f.0 (value_of (f.1 x)) (entries x fs)

-- equation (3); with no factor, the empty group for each variable of π
unfoldable pub collect : Pattern → List Factor → Assignment
collect π fs x = if in_var π x then some (group (entries x fs)) else none

-- ------------------------------------------------------------------ Definition 7
-- the values of a type over n nodes and m edges, with groups of at most k factors
abbrev pub AllOf : (Value → Type 0) → Entries → Type 0
AllOf P no_entry = Unit {0}
AllOf P (entry p v g) = P v × AllOf P g

module _ (n m k : ℕ) where
  abbrev pub Of : Ty → Value → Type 0
  Of Node v = (u : ℕ) × (u < n) × (v ≡ one (the_node u))
  Of Edge v = (e : ℕ) × (e < m) × (v ≡ one (the_edge e))
  Of (Maybe τ) v = (v ≡ nothing) ⊎ Of τ v
  Of (Group τ) v = (g : Entries) × (count g ≤ k) × AllOf (Of τ) g × (v ≡ group g)

  -- a variable's value conforms to its type, and an unused variable has none
  abbrev pub Conforms : Found → Option Value → Type 0
  Conforms absent o = o ≡ none
  Conforms clash o = Unit {0}
  Conforms (typed τ) o = (v : Value) × (o ≡ some v) × Of τ v

-- ------------------------------------------------------------------ μ ⊨ θ
-- none: the property is absent
unfoldable pub property_of : Graph → Option Value → ℕ → Option ℕ
property_of G none k = none
property_of G (some (one x)) k = G.property x k
property_of G (some nothing) k = none
property_of G (some (group g)) k = none

-- 02, Q-2: with an undefined side it is unknown (01: false)
unfoldable pub equality : Option ℕ → Option ℕ → Truth
equality none none = Unknown
equality none (some b) = Unknown
equality (some a) none = Unknown
equality (some a) (some b) = decided (eqb a b)

unfoldable pub holds : Graph → Assignment → Condition → Truth
holds G μ (equals_constant x k c) = equality (property_of G (μ x) k) (some c)
holds G μ (equals_property x k y l) = equality (property_of G (μ x) k) (property_of G (μ y) l)
holds G μ (and s t) = conjunction (holds G μ s) (holds G μ t)
holds G μ (or s t) = disjunction (holds G μ s) (holds G μ t)
holds G μ (neg s) = negation (holds G μ s)
