-- 000, Figure 1: queries; and the rules of Figure 2 for them. 02, Q-1 lists their answers.
use Rattle.std.specs.Prelude.{◌≡◌, List, ◌∷◌, ◌++◌, Bool, true, false, ◌||◌, ◌≢◌, ℕ, ◌+◌, eqb}
use Rattle.meaning.specs.Pattern.{Pattern, in_var, vars}
use Rattle.meaning.specs.Typing.{Ty, Single, Has, Found, absent, clash, typed, concatenation_ty, type_of}
use Rattle.meaning.specs.Answer.{Restrictor}

-- Q: ρ π; x = ρ π; Q, Q
pub data Query : Type 0 where
  unnamed : Restrictor → Pattern → Query
  naming : ℕ → Restrictor → Pattern → Query
  joining : Query → Query → Query

-- x ∈ var(Q), and var(Q) as a list
unfoldable pub in_query : Query → ℕ → Bool
in_query (unnamed ρ π) x = in_var π x
in_query (naming y ρ π) x = eqb y x || in_var π x
in_query (joining a b) x = in_query a x || in_query b x

unfoldable pub query_vars : Query → List ℕ
query_vars (unnamed ρ π) = vars π
query_vars (naming y ρ π) = y ∷ vars π
query_vars (joining a b) = query_vars a ++ query_vars b

-- how many patterns are joined
unfoldable pub width : Query → ℕ
width (unnamed ρ π) = 1
width (naming y ρ π) = 1
width (joining a b) = width a + width b

-- ------------------------------------------------------------------ Figure 2
-- the types of a query's variables: those of a pattern's, and Path (which stands under no Maybe and no Group: no rule makes such a type)
pub data QueryTy : Type 0 where
  plain : Ty → QueryTy
  Path : QueryTy

-- τ ∈ {Node, Edge}
pub data QuerySingle : QueryTy → Type 0 where
  one_element : {τ : Ty} → Single τ → QuerySingle (plain τ)

-- Q ⊢ z : τ, a constructor for each rule
pub data QueryHas : Query → ℕ → QueryTy → Type 0 where
  has_restricted : {ρ : Restrictor} {π : Pattern} {z : ℕ} {τ : Ty} → Has π z τ → QueryHas (unnamed ρ π) z (plain τ)
  has_name : {x : ℕ} {ρ : Restrictor} {π : Pattern} → in_var π x ≡ false → QueryHas (naming x ρ π) x Path
  has_other : {x : ℕ} {ρ : Restrictor} {π : Pattern} {z : ℕ} {τ : Ty} → Has π z τ → z ≢ x → QueryHas (naming x ρ π) z (plain τ)
  has_in_both : {a b : Query} {z : ℕ} {τ : QueryTy} → QueryHas a z τ → QueryHas b z τ → QuerySingle τ → QueryHas (joining a b) z τ
  has_in_first : {a b : Query} {z : ℕ} {τ : QueryTy} → QueryHas a z τ → in_query b z ≡ false → QueryHas (joining a b) z τ
  has_in_second : {a b : Query} {z : ℕ} {τ : QueryTy} → QueryHas b z τ → in_query a z ≡ false → QueryHas (joining a b) z τ

-- Definition 1, for queries
abbrev pub QueryTyped : Query → Type 0
QueryTyped Q = (x : ℕ) → in_query Q x ≡ true → (τ : QueryTy) × QueryHas Q x τ

-- ------------------------------------------------------------------ computed
-- what is found of a variable: as for a pattern, or that it names a path
pub data QueryFound : Type 0 where
  element : Found → QueryFound
  path : QueryFound

-- the name of a path is not used in its pattern
unfoldable pub naming_ty : Bool → Found → QueryFound
naming_ty false f = element f
naming_ty true absent = path
naming_ty true clash = element clash
naming_ty true (typed τ) = element clash

-- a shared variable of a join is Node in both or Edge in both
unfoldable pub joining_ty : QueryFound → QueryFound → QueryFound
joining_ty (element f) (element g) = element (concatenation_ty f g)
joining_ty (element absent) path = path
joining_ty (element clash) path = element clash
joining_ty (element (typed τ)) path = element clash
joining_ty path (element absent) = path
joining_ty path (element clash) = element clash
joining_ty path (element (typed τ)) = element clash
joining_ty path path = element clash

unfoldable pub query_type_of : Query → ℕ → QueryFound
query_type_of (unnamed ρ π) x = element (type_of π x)
query_type_of (naming y ρ π) x = naming_ty (eqb y x) (type_of π x)
query_type_of (joining a b) x = joining_ty (query_type_of a x) (query_type_of b x)

-- the type τ was found
unfoldable pub found_ty : QueryTy → QueryFound
found_ty (plain τ) = element (typed τ)
found_ty Path = path
