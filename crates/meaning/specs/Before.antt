-- What 01 kept before Q-2: an equality with an undefined side was false, and a condition had two truth values. For the theorems alone that
-- tell a host what Q-2 changes for it.
use Rattle.std.specs.Prelude.{◌≡◌, Bool, ◌&&◌, ◌||◌, false, not, true, ℕ, eqb}
use Rattle.std.proofs.Math.Option.{Option, none, some}
use Rattle.meaning.specs.Graph.{Graph, Walk}
use Rattle.meaning.specs.Pattern.{Condition, Pattern, and, concatenation, conditioned, edge, equals_constant, equals_property, neg, node, or, repetition, union}
use Rattle.meaning.specs.Assignment.{Assignment, property_of}
use Rattle.meaning.specs.Meaning.{AnswerSet, ConcatenationAnswer, EdgeAnswer, Meaning, NodeAnswer, RepetitionAnswer, UnionAnswer}

-- both sides are defined and equal
unfoldable pub both_equal : Option ℕ → Option ℕ → Bool
both_equal none b = false
both_equal (some a) none = false
both_equal (some a) (some b) = eqb a b

unfoldable pub held_before : Graph → Assignment → Condition → Bool
held_before G μ (equals_constant x k c) = both_equal (property_of G (μ x) k) (some c)
held_before G μ (equals_property x k y l) = both_equal (property_of G (μ x) k) (property_of G (μ y) l)
held_before G μ (and s t) = held_before G μ s && held_before G μ t
held_before G μ (or s t) = held_before G μ s || held_before G μ t
held_before G μ (neg s) = not (held_before G μ s)

-- ⟦π⟨θ⟩⟧
pub record ConditionedBefore (A : AnswerSet) (G : Graph) (θ : Condition) (p : Walk) (μ : Assignment) : Type 0 where
  pub answer : A p μ
  pub satisfied : held_before G μ θ ≡ true

-- (p, μ) ∈ ⟦π⟧
unfoldable pub MeaningBefore : Graph → Pattern → AnswerSet
MeaningBefore G (node x l) = NodeAnswer G x l
MeaningBefore G (edge d x l) = EdgeAnswer G d x l
MeaningBefore G (union a b) = UnionAnswer (MeaningBefore G a) (MeaningBefore G b) (union a b)
MeaningBefore G (concatenation a b) = ConcatenationAnswer (MeaningBefore G a) (MeaningBefore G b)
MeaningBefore G (conditioned a θ) = ConditionedBefore (MeaningBefore G a) G θ
MeaningBefore G (repetition a n m) = RepetitionAnswer (MeaningBefore G a) G a n m

-- ------------------------------------------------------------------ for which patterns nothing changes
unfoldable pub without_not : Condition → Bool
without_not (equals_constant x k c) = true
without_not (equals_property x k y l) = true
without_not (and s t) = without_not s && without_not t
without_not (or s t) = without_not s && without_not t
without_not (neg s) = false

unfoldable pub is_present : Option ℕ → Bool
is_present none = false
is_present (some w) = true

-- every property that the condition compares is present
unfoldable pub all_present_lem : Graph → Assignment → Condition → Bool
all_present_lem G μ (equals_constant x k c) = is_present (property_of G (μ x) k)
all_present_lem G μ (equals_property x k y l) = is_present (property_of G (μ x) k) && is_present (property_of G (μ y) l)
all_present_lem G μ (and s t) = all_present_lem G μ s && all_present_lem G μ t
all_present_lem G μ (or s t) = all_present_lem G μ s && all_present_lem G μ t
all_present_lem G μ (neg s) = all_present_lem G μ s

-- no condition of the pattern has a `not`
unfoldable pub no_nots : Pattern → Bool
no_nots (node x l) = true
no_nots (edge d x l) = true
no_nots (union a b) = no_nots a && no_nots b
no_nots (concatenation a b) = no_nots a && no_nots b
no_nots (conditioned a θ) = no_nots a && without_not θ
no_nots (repetition a n m) = no_nots a

-- every property that a condition of the pattern compares is present, in every match that the condition is asked of
abbrev pub Present : Graph → Pattern → Type 0
Present G (node x l) = Unit {0}
Present G (edge d x l) = Unit {0}
Present G (union a b) = Present G a × Present G b
Present G (concatenation a b) = Present G a × Present G b
Present G (conditioned a θ) = Present G a × ((p : Walk) (μ : Assignment) → Meaning G a p μ → all_present_lem G μ θ ≡ true)
Present G (repetition a n m) = Present G a
