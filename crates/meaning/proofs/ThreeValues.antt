-- The three truth values (02, Q-2): their tables, and for which patterns nothing changes by them.
use mathlib.Core.Path.{◌∙◌, ◌≡◌, ap, ap₂, refl, sym}
use mathlib.Core.List.{List, [], ◌∷◌, map}
use mathlib.Core.Option.{Option, none, some}
use mathlib.Core.Bool.{Bool, ◌&&◌, ◌||◌, false, not, true}
use mathlib.Core.Logic.{◌↔◌, inl, inr}
use Prim.Native.Nat.{ℕ}
use lib.Dec.{eqb}
use Rattle.meaning.proofs.Logic.{all_map, and_l, and_r, either, no_false}
use Rattle.meaning.proofs.Opened.{opened}
use Rattle.meaning.specs.Assignment.{Assignment, equality, holds, property_of}
use Rattle.meaning.specs.Before.{MeaningBefore, Present, all_present_lem, both_equal, held_before, is_present, no_nots, without_not}
use Rattle.meaning.specs.Graph.{Graph, Walk}
use Rattle.meaning.specs.Meaning.{AnswerSet, ConcatenationAnswer, Meaning, RepetitionAnswer, UnionAnswer}
use Rattle.meaning.specs.Pattern.{Condition, Pattern, and, concatenation, conditioned, edge, equals_constant, equals_property, neg, node, or, repetition, union}
use Rattle.meaning.specs.Truth.{False, True, Truth, Unknown, conjunction, decided, disjunction, is_true, negation}

-- ------------------------------------------------------------------ the tables
abbrev three : List Truth
three = True ∷ False ∷ Unknown ∷ []

-- the rows of and, or: true, false, unknown on the left; within a row the same on the right; and what is kept
pub tables :
    (map negation three ≡ False ∷ True ∷ Unknown ∷ [])
    × (map (λ s. map (conjunction s) three) three ≡ (True ∷ False ∷ Unknown ∷ []) ∷ (False ∷ False ∷ False ∷ []) ∷ (Unknown ∷ False ∷ Unknown ∷ []) ∷ [])
    × (map (λ s. map (disjunction s) three) three ≡ (True ∷ True ∷ True ∷ []) ∷ (True ∷ False ∷ Unknown ∷ []) ∷ (True ∷ Unknown ∷ Unknown ∷ []) ∷ [])
    × (map is_true three ≡ true ∷ false ∷ false ∷ [])
unfolding opened
tables = (refl, refl, refl, refl)

pub is_true→ : (t : Truth) → is_true t ≡ true → t ≡ True
unfolding opened
is_true→ True e = refl
is_true→ False e = no_false e
is_true→ Unknown e = no_false e

pub is_true← : (t : Truth) → t ≡ True → is_true t ≡ true
unfolding opened
is_true← t e = rw e

decided_true : (b : Bool) → is_true (decided b) ≡ b
unfolding opened
decided_true true = refl
decided_true false = refl

-- ------------------------------------------------------------------ a condition without `not`
equal_kept : (a b : Option ℕ) → is_true (equality a b) ≡ both_equal a b
unfolding opened both_equal
equal_kept none none = refl
equal_kept none (some b) = refl
equal_kept (some a) none = refl
equal_kept (some a) (some b) = decided_true (eqb a b)

and_kept : (s t : Truth) → is_true (conjunction s t) ≡ (is_true s && is_true t)
unfolding opened
and_kept True t = refl
and_kept False t = refl
and_kept Unknown True = refl
and_kept Unknown False = refl
and_kept Unknown Unknown = refl

or_kept : (s t : Truth) → is_true (disjunction s t) ≡ (is_true s || is_true t)
unfolding opened
or_kept True t = refl
or_kept False t = refl
or_kept Unknown True = refl
or_kept Unknown False = refl
or_kept Unknown Unknown = refl

-- it keeps just what it kept before
pub without_not_kept : (G : Graph) (μ : Assignment) (θ : Condition) → without_not θ ≡ true → is_true (holds G μ θ) ≡ held_before G μ θ
unfolding opened held_before without_not
without_not_kept G μ (equals_constant x k c) e = equal_kept (property_of G (μ x) k) (some c)
without_not_kept G μ (equals_property x k y l) e = equal_kept (property_of G (μ x) k) (property_of G (μ y) l)
without_not_kept G μ (and s t) e = and_kept (holds G μ s) (holds G μ t) ∙ ap₂ ◌&&◌ (without_not_kept G μ s (and_l (without_not s) (without_not t) e)) (without_not_kept G μ t (and_r (without_not s) (without_not t) e))
without_not_kept G μ (or s t) e = or_kept (holds G μ s) (holds G μ t) ∙ ap₂ ◌||◌ (without_not_kept G μ s (and_l (without_not s) (without_not t) e)) (without_not_kept G μ t (and_r (without_not s) (without_not t) e))
without_not_kept G μ (neg s) e = no_false e

-- ------------------------------------------------------------------ a condition whose every compared property is present
equal_decided : (a b : Option ℕ) → is_present a ≡ true → is_present b ≡ true → equality a b ≡ decided (both_equal a b)
unfolding opened both_equal is_present
equal_decided none b e f = no_false e
equal_decided (some a) none e f = no_false f
equal_decided (some a) (some b) e f = refl

and_decided : (s t : Bool) → conjunction (decided s) (decided t) ≡ decided (s && t)
unfolding opened
and_decided true t = refl
and_decided false t = refl

or_decided : (s t : Bool) → disjunction (decided s) (decided t) ≡ decided (s || t)
unfolding opened
or_decided true t = refl
or_decided false t = refl

not_decided : (s : Bool) → negation (decided s) ≡ decided (not s)
unfolding opened
not_decided true = refl
not_decided false = refl

-- it is true or false, as it was before
pub present_decided : (G : Graph) (μ : Assignment) (θ : Condition) → all_present_lem G μ θ ≡ true → holds G μ θ ≡ decided (held_before G μ θ)
unfolding opened held_before all_present_lem is_present
present_decided G μ (equals_constant x k c) e = equal_decided (property_of G (μ x) k) (some c) e refl
present_decided G μ (equals_property x k y l) e = equal_decided (property_of G (μ x) k) (property_of G (μ y) l) (and_l (is_present (property_of G (μ x) k)) (is_present (property_of G (μ y) l)) e) (and_r (is_present (property_of G (μ x) k)) (is_present (property_of G (μ y) l)) e)
present_decided G μ (and s t) e = ap₂ conjunction (present_decided G μ s (and_l (all_present_lem G μ s) (all_present_lem G μ t) e)) (present_decided G μ t (and_r (all_present_lem G μ s) (all_present_lem G μ t) e)) ∙ and_decided (held_before G μ s) (held_before G μ t)
present_decided G μ (or s t) e = ap₂ disjunction (present_decided G μ s (and_l (all_present_lem G μ s) (all_present_lem G μ t) e)) (present_decided G μ t (and_r (all_present_lem G μ s) (all_present_lem G μ t) e)) ∙ or_decided (held_before G μ s) (held_before G μ t)
present_decided G μ (neg s) e = ap negation (present_decided G μ s e) ∙ not_decided (held_before G μ s)

-- ------------------------------------------------------------------ patterns
-- each condition keeps what it kept before, of the matches that it is asked of
abbrev Agrees : Graph → Pattern → Type 0
Agrees G (node x l) = Unit {0}
Agrees G (edge d x l) = Unit {0}
Agrees G (union a b) = Agrees G a × Agrees G b
Agrees G (concatenation a b) = Agrees G a × Agrees G b
Agrees G (conditioned a θ) = Agrees G a × ((p : Walk) (μ : Assignment) → Meaning G a p μ → is_true (holds G μ θ) ≡ held_before G μ θ)
Agrees G (repetition a n m) = Agrees G a

-- answers of the parts, with those of other sets for them
abbrev Within : AnswerSet → AnswerSet → Type 0
Within A B = (p : Walk) (μ : Assignment) → A p μ → B p μ

union_within : {A A' B B' : AnswerSet} (π : Pattern) → Within A A' → Within B B' → Within (UnionAnswer A B π) (UnionAnswer A' B' π)
union_within π f g p μ h = record { ν = h.ν; either = either h.either (λ k. inl (f p h.ν k)) (λ k. inr (g p h.ν k)); assignment_is = h.assignment_is }

concatenation_within : {A A' B B' : AnswerSet} → Within A A' → Within B B' → Within (ConcatenationAnswer A B) (ConcatenationAnswer A' B')
concatenation_within f g p μ h = record {
  p₁ = h.p₁;
  p₂ = h.p₂;
  μ₁ = h.μ₁;
  μ₂ = h.μ₂;
  first = f h.p₁ h.μ₁ h.first;
  second = g h.p₂ h.μ₂ h.second;
  concatenate = h.concatenate;
  unify = h.unify;
  path_is = h.path_is;
  assignment_is = h.assignment_is;
}

repetition_within : {A A' : AnswerSet} (G : Graph) (π : Pattern) (n : ℕ) (m : Option ℕ) → Within A A' → Within (RepetitionAnswer A G π n m) (RepetitionAnswer A' G π n m)
repetition_within G π n m f p μ h = record {
  factors = h.factors;
  at_least = h.at_least;
  at_most_law = h.at_most_law;
  answers = all_map (λ c k. f c.0 c.1 k) h.factors h.answers;
  path_is = h.path_is;
  assignment_is = h.assignment_is;
}

module _ (G : Graph) where
  before→ : (π : Pattern) → Agrees G π → Within (Meaning G π) (MeaningBefore G π)
  unfolding opened MeaningBefore
  before→ (node x l) s = λ p μ h. h
  before→ (edge d x l) s = λ p μ h. h
  before→ (union a b) s = union_within (union a b) (before→ a s.0) (before→ b s.1)
  before→ (concatenation a b) s = concatenation_within (before→ a s.0) (before→ b s.1)
  before→ (conditioned a θ) s = λ p μ h. record { answer = before→ a s.0 p μ h.answer; satisfied = sym (s.1 p μ h.answer) ∙ is_true← (holds G μ θ) h.satisfies }
  before→ (repetition a n m) s = repetition_within G a n m (before→ a s)

  before← : (π : Pattern) → Agrees G π → Within (MeaningBefore G π) (Meaning G π)
  unfolding opened MeaningBefore
  before← (node x l) s = λ p μ h. h
  before← (edge d x l) s = λ p μ h. h
  before← (union a b) s = union_within (union a b) (before← a s.0) (before← b s.1)
  before← (concatenation a b) s = concatenation_within (before← a s.0) (before← b s.1)
  before← (conditioned a θ) s = λ p μ h.
      let k : Meaning G a p μ = before← a s.0 p μ h.answer in
      record { answer = k; satisfies = is_true→ (holds G μ θ) (s.1 p μ k ∙ h.satisfied) }
  before← (repetition a n m) s = repetition_within G a n m (before← a s)

  without_nots : (π : Pattern) → no_nots π ≡ true → Agrees G π
  unfolding no_nots
  without_nots (node x l) e = tt
  without_nots (edge d x l) e = tt
  without_nots (union a b) e = (without_nots a (and_l (no_nots a) (no_nots b) e), without_nots b (and_r (no_nots a) (no_nots b) e))
  without_nots (concatenation a b) e = (without_nots a (and_l (no_nots a) (no_nots b) e), without_nots b (and_r (no_nots a) (no_nots b) e))
  without_nots (conditioned a θ) e = (without_nots a (and_l (no_nots a) (without_not θ) e), λ p μ h. without_not_kept G μ θ (and_r (no_nots a) (without_not θ) e))
  without_nots (repetition a n m) e = without_nots a e

  all_present : (π : Pattern) → Present G π → Agrees G π
  all_present (node x l) s = tt
  all_present (edge d x l) s = tt
  all_present (union a b) s = (all_present a s.0, all_present b s.1)
  all_present (concatenation a b) s = (all_present a s.0, all_present b s.1)
  all_present (conditioned a θ) s = (all_present a s.0, λ p μ h. ap is_true (present_decided G μ θ (s.1 p μ h)) ∙ decided_true (held_before G μ θ))
  all_present (repetition a n m) s = all_present a s

  -- a pattern without `not` has just the answers that it had before
  pub without_not_same : (π : Pattern) → no_nots π ≡ true → (p : Walk) (μ : Assignment) → Meaning G π p μ ↔ MeaningBefore G π p μ
  without_not_same π e p μ = (before→ π (without_nots π e) p μ, before← π (without_nots π e) p μ)

  -- and so has one whose every compared property is present
  pub present_same : (π : Pattern) → Present G π → (p : Walk) (μ : Assignment) → Meaning G π p μ ↔ MeaningBefore G π p μ
  present_same π s p μ = (before→ π (all_present π s) p μ, before← π (all_present π s) p μ)
