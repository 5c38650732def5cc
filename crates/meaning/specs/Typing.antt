-- 000, Section 4: types, the rules of Figure 2, Definition 1; and the types computed.
use Rattle.std.specs.Prelude.{◌≡◌, Bool, true, false, ◌&&◌, ℕ}
use Rattle.std.proofs.Math.Option.{Option, some}
use Rattle.meaning.specs.Graph.{Direction}
use Rattle.meaning.specs.Pattern.{Condition, equals_constant, equals_property, and, or, neg, Pattern, node, edge, union, concatenation, conditioned, repetition, named, in_var}

-- 000, Section 4: what a variable can be bound to
pub data Ty : Type 0 where
  Node Edge : Ty
  Maybe : Ty → Ty
  Group : Ty → Ty
  deriving Discrete as Ty-discrete

-- τ ∈ {Node, Edge}
pub data Single : Ty → Type 0 where
  one_node : Single Node
  one_edge : Single Edge

-- τ?
unfoldable pub opt : Ty → Ty
opt Node = Maybe Node
opt Edge = Maybe Edge
opt (Maybe τ) = Maybe τ
opt (Group τ) = Maybe (Group τ)

-- Figure 2, a constructor for each rule
mutual
  -- π ⊢ z : τ
  pub data Has : Pattern → ℕ → Ty → Type 0 where
    has_node : {x : ℕ} {l : Option ℕ} → Has (node (some x) l) x Node
    has_edge : {d : Direction} {x : ℕ} {l : Option ℕ} → Has (edge d (some x) l) x Edge
    has_group : {a : Pattern} {z : ℕ} {τ : Ty} {n : ℕ} {m : Option ℕ} → Has a z τ → Has (repetition a n m) z (Group τ)
    has_conditioned : {a : Pattern} {θ : Condition} {z : ℕ} {τ : Ty} → Fits a θ → Has a z τ → Has (conditioned a θ) z τ
    has_both : {a b : Pattern} {z : ℕ} {τ : Ty} → Has a z τ → Has b z τ → Has (union a b) z τ
    has_left_maybe : {a b : Pattern} {z : ℕ} {τ : Ty} → Has a z τ → Has b z (Maybe τ) → Has (union a b) z (Maybe τ)
    has_right_maybe : {a b : Pattern} {z : ℕ} {τ : Ty} → Has a z (Maybe τ) → Has b z τ → Has (union a b) z (Maybe τ)
    has_left : {a b : Pattern} {z : ℕ} {τ σ : Ty} → Has a z τ → in_var b z ≡ false → σ ≡ opt τ → Has (union a b) z σ
    has_right : {a b : Pattern} {z : ℕ} {τ σ : Ty} → Has b z τ → in_var a z ≡ false → σ ≡ opt τ → Has (union a b) z σ
    has_shared : {a b : Pattern} {z : ℕ} {τ : Ty} → Has a z τ → Has b z τ → Single τ → Has (concatenation a b) z τ
    has_first : {a b : Pattern} {z : ℕ} {τ : Ty} → Has a z τ → in_var b z ≡ false → Has (concatenation a b) z τ
    has_second : {a b : Pattern} {z : ℕ} {τ : Ty} → Has b z τ → in_var a z ≡ false → Has (concatenation a b) z τ

  -- π ⊢ θ : Bool
  pub data Fits : Pattern → Condition → Type 0 where
    fits_constant : {a : Pattern} {x k c : ℕ} {τ : Ty} → Has a x τ → Single τ → Fits a (equals_constant x k c)
    fits_property : {a : Pattern} {x k y l : ℕ} {τ σ : Ty} → Has a x τ → Has a y σ → Single τ → Single σ → Fits a (equals_property x k y l)
    fits_and : {a : Pattern} {s t : Condition} → Fits a s → Fits a t → Fits a (and s t)
    fits_or : {a : Pattern} {s t : Condition} → Fits a s → Fits a t → Fits a (or s t)
    fits_neg : {a : Pattern} {s : Condition} → Fits a s → Fits a (neg s)

-- Definition 1
abbrev pub WellTyped : Pattern → Type 0
WellTyped π = (x : ℕ) → in_var π x ≡ true → (τ : Ty) × Has π x τ

-- ------------------------------------------------------------------ computed
-- a variable that is not used, one that the rules give no type, and one with its type
pub data Found : Type 0 where
  absent clash : Found
  typed : Ty → Found

unfoldable pub single : Found → Bool
single absent = false
single clash = false
single (typed Node) = true
single (typed Edge) = true
single (typed (Maybe τ)) = false
single (typed (Group τ)) = false

unfoldable pub fits : (ℕ → Found) → Condition → Bool
fits f (equals_constant x k c) = single (f x)
fits f (equals_property x k y l) = single (f x) && single (f y)
fits f (and s t) = fits f s && fits f t
fits f (or s t) = fits f s && fits f t
fits f (neg s) = fits f s

-- the join of two types in a union: the common one, or Maybe of τ beside τ
unfoldable pub join_ty : (τ σ : Ty) → Dec (τ ≡ σ) → Dec (σ ≡ Maybe τ) → Dec (τ ≡ Maybe σ) → Found
join_ty τ σ (yes p) e₂ e₃ = typed τ
join_ty τ σ (no p) (yes q) e₃ = typed σ
join_ty τ σ (no p) (no q) (yes r) = typed τ
join_ty τ σ (no p) (no q) (no r) = clash

unfoldable pub union_ty : Found → Found → Found
union_ty absent absent = absent
union_ty absent clash = clash
union_ty absent (typed σ) = typed (opt σ)
union_ty clash absent = clash
union_ty clash clash = clash
union_ty clash (typed σ) = clash
union_ty (typed τ) absent = typed (opt τ)
union_ty (typed τ) clash = clash
union_ty (typed τ) (typed σ) = join_ty τ σ (Ty-discrete τ σ) (Ty-discrete σ (Maybe τ)) (Ty-discrete τ (Maybe σ))

-- a shared variable of a concatenation is Node in both or Edge in both
unfoldable pub concatenation_ty : Found → Found → Found
concatenation_ty absent g = g
concatenation_ty clash g = clash
concatenation_ty (typed τ) absent = typed τ
concatenation_ty (typed τ) clash = clash
concatenation_ty (typed Node) (typed Node) = typed Node
concatenation_ty (typed Node) (typed Edge) = clash
concatenation_ty (typed Node) (typed (Maybe σ)) = clash
concatenation_ty (typed Node) (typed (Group σ)) = clash
concatenation_ty (typed Edge) (typed Edge) = typed Edge
concatenation_ty (typed Edge) (typed Node) = clash
concatenation_ty (typed Edge) (typed (Maybe σ)) = clash
concatenation_ty (typed Edge) (typed (Group σ)) = clash
concatenation_ty (typed (Maybe τ)) (typed σ) = clash
concatenation_ty (typed (Group τ)) (typed σ) = clash

unfoldable pub repetition_ty : Found → Found
repetition_ty absent = absent
repetition_ty clash = clash
repetition_ty (typed τ) = typed (Group τ)

unfoldable pub named_ty : Ty → Bool → Found
named_ty τ true = typed τ
named_ty τ false = absent

-- under a condition that has no type no variable has one
unfoldable pub conditioned_ty : Bool → Found → Bool → Found
conditioned_ty true f u = f
conditioned_ty false f true = clash
conditioned_ty false f false = absent

unfoldable pub type_of : Pattern → ℕ → Found
type_of (node y l) x = named_ty Node (named y x)
type_of (edge d y l) x = named_ty Edge (named y x)
type_of (union a b) x = union_ty (type_of a x) (type_of b x)
type_of (concatenation a b) x = concatenation_ty (type_of a x) (type_of b x)
type_of (conditioned a θ) x = conditioned_ty (fits (type_of a) θ) (type_of a x) (in_var (conditioned a θ) x)
type_of (repetition a n m) x = repetition_ty (type_of a x)
