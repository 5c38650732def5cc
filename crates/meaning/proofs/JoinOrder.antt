-- In which order three queries are joined is no matter: the answers are the same paths and the same assignments.
use mathlib.Core.Path.{◌∙◌, ◌≡◌, ap, fun_ext, refl, sym}
use mathlib.Core.List.{List, ◌++◌, append_assoc}
use mathlib.Core.Option.{Option, none, some}
use mathlib.Core.Logic.{◌↔◌}
use Rattle.meaning.proofs.Logic.{either, or_else_some}
use Rattle.meaning.proofs.QueryOpened.{query_opened}
use Rattle.meaning.specs.Assignment.{Unify, ◌∪◌}
use Rattle.meaning.specs.Basics.{or_else}
use Rattle.meaning.specs.Graph.{Graph, Walk}
use Rattle.meaning.specs.Joins.{JoinAnswer, QueryAnswerSet, QueryAssignment, QueryMeaning, QueryValue}
use Rattle.meaning.specs.Query.{Query, joining}

or_assoc : (a b c : Option QueryValue) → or_else (or_else a b) c ≡ or_else a (or_else b c)
or_assoc none b c = refl
or_assoc (some v) b c = refl

union_assoc : (μ ν ξ : QueryAssignment) → (μ ∪ ν) ∪ ξ ≡ μ ∪ (ν ∪ ξ)
unfolding query_opened
union_assoc μ ν ξ = fun_ext (λ x. or_assoc (μ x) (ν x) (ξ x))

-- ------------------------------------------------------------------ unification
module _ (μ ν ξ : QueryAssignment) where
  first_left : Unify (μ ∪ ν) ξ → Unify μ ξ
  unfolding query_opened
  first_left h x v w e f = h x v w (rw e refl) f

  second_left : Unify μ ν → Unify (μ ∪ ν) ξ → Unify ν ξ
  unfolding query_opened
  second_left h k x v w e f = go (μ x) refl
    where
      go : (o : Option QueryValue) → μ x ≡ o → v ≡ w
      go none q = k x v w (ap (λ (o : Option QueryValue). or_else o (ν x)) q ∙ e) f
      go (some u) q = sym (h x u v q e) ∙ k x u w (ap (λ (o : Option QueryValue). or_else o (ν x)) q) f

  to_right : Unify μ ν → Unify μ ξ → Unify μ (ν ∪ ξ)
  unfolding query_opened
  to_right h k x v w e f = either (or_else_some (ν x) (ξ x) w f) (h x v w e) (k x v w e)

  to_left : Unify μ ξ → Unify ν ξ → Unify (μ ∪ ν) ξ
  unfolding query_opened
  to_left h k x v w e f = either (or_else_some (μ x) (ν x) v e) (λ q. h x v w q f) (λ q. k x v w q f)

  first_right : Unify μ (ν ∪ ξ) → Unify μ ν
  unfolding query_opened
  first_right h x v w e f = h x v w e (rw f refl)

  second_right : Unify ν ξ → Unify μ (ν ∪ ξ) → Unify μ ξ
  unfolding query_opened
  second_right h k x v w e f = go (ν x) refl
    where
      go : (o : Option QueryValue) → ν x ≡ o → v ≡ w
      go none q = k x v w e (ap (λ (o : Option QueryValue). or_else o (ξ x)) q ∙ f)
      go (some u) q = k x v u e (ap (λ (o : Option QueryValue). or_else o (ξ x)) q) ∙ h x u w q f

-- ------------------------------------------------------------------ answers
module _ (A B C : QueryAnswerSet) (ps : List Walk) (μ : QueryAssignment) where
  to : JoinAnswer (JoinAnswer A B) C ps μ → JoinAnswer A (JoinAnswer B C) ps μ
  to h =
      let k = h.first in
      let u : Unify (k.μ₁ ∪ k.μ₂) h.μ₂ = rw k.assignment_is at h.unify in
      record {
        ps₁ = k.ps₁;
        ps₂ = k.ps₂ ++ h.ps₂;
        μ₁ = k.μ₁;
        μ₂ = k.μ₂ ∪ h.μ₂;
        first = k.first;
        second = record { ps₁ = k.ps₂; ps₂ = h.ps₂; μ₁ = k.μ₂; μ₂ = h.μ₂; first = k.second; second = h.second; unify = second_left k.μ₁ k.μ₂ h.μ₂ k.unify u; paths_are = refl; assignment_is = refl };
        unify = to_right k.μ₁ k.μ₂ h.μ₂ k.unify (first_left k.μ₁ k.μ₂ h.μ₂ u);
        paths_are = h.paths_are ∙ (ap (λ (l : List Walk). l ++ h.ps₂) k.paths_are ∙ append_assoc k.ps₁ k.ps₂ h.ps₂);
        assignment_is = h.assignment_is ∙ (ap (λ (ν : QueryAssignment). ν ∪ h.μ₂) k.assignment_is ∙ union_assoc k.μ₁ k.μ₂ h.μ₂);
      }

  back : JoinAnswer A (JoinAnswer B C) ps μ → JoinAnswer (JoinAnswer A B) C ps μ
  back h =
      let k = h.second in
      let u : Unify h.μ₁ (k.μ₁ ∪ k.μ₂) = rw k.assignment_is at h.unify in
      record {
        ps₁ = h.ps₁ ++ k.ps₁;
        ps₂ = k.ps₂;
        μ₁ = h.μ₁ ∪ k.μ₁;
        μ₂ = k.μ₂;
        first = record { ps₁ = h.ps₁; ps₂ = k.ps₁; μ₁ = h.μ₁; μ₂ = k.μ₁; first = h.first; second = k.first; unify = first_right h.μ₁ k.μ₁ k.μ₂ u; paths_are = refl; assignment_is = refl };
        second = k.second;
        unify = to_left h.μ₁ k.μ₁ k.μ₂ (second_right h.μ₁ k.μ₁ k.μ₂ k.unify u) k.unify;
        paths_are = h.paths_are ∙ (ap (λ (l : List Walk). h.ps₁ ++ l) k.paths_are ∙ sym (append_assoc h.ps₁ k.ps₁ k.ps₂));
        assignment_is = h.assignment_is ∙ (ap (λ (ν : QueryAssignment). h.μ₁ ∪ ν) k.assignment_is ∙ sym (union_assoc h.μ₁ k.μ₁ k.μ₂));
      }

pub join_associative : (G : Graph) (a b c : Query) (ps : List Walk) (μ : QueryAssignment) → QueryMeaning G (joining (joining a b) c) ps μ ↔ QueryMeaning G (joining a (joining b c)) ps μ
unfolding query_opened
join_associative G a b c ps μ = (to (QueryMeaning G a) (QueryMeaning G b) (QueryMeaning G c) ps μ, back (QueryMeaning G a) (QueryMeaning G b) (QueryMeaning G c) ps μ)
