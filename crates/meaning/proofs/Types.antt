-- Figure 2's rules and the computed types agree, both ways; and Definition 1, computed.
use mathlib.Core.Path.{◌∙◌, ◌≡◌, ap, ap₂, refl, sym}
use mathlib.Core.Bool.{Bool, ◌&&◌, false, true}
use mathlib.Core.Logic.{◌↔◌, ◌≢◌}
use Prim.Native.Nat.{suc, ℕ}
use native.Mathlib.Omega.{arith}
use borrow.Author.Tests.{eq-eqb}
use Rattle.meaning.proofs.Derived.{typed→has}
use Rattle.meaning.proofs.Logic.{no_true}
use Rattle.meaning.proofs.Opened.{opened}
use Rattle.meaning.proofs.Unused.{absent→unused, no_clash_absent, no_clash_typed, unused→absent}
use Rattle.meaning.specs.Pattern.{Condition, Pattern, conditioned, in_var}
use Rattle.meaning.specs.Typing.{Edge, Fits, Found, Group, Has, Maybe, Node, Single, Ty, Ty-discrete, WellTyped, absent, clash, concatenation_ty, conditioned_ty, fits, fits_and, fits_constant, fits_neg, fits_or, fits_property, has_both, has_conditioned, has_edge, has_first, has_group, has_left, has_left_maybe, has_node, has_right, has_right_maybe, has_second, has_shared, join_ty, named_ty, one_edge, one_node, repetition_ty, single, type_of, typed, union_ty}

unfoldable depth : Ty → ℕ
depth Node = 0
depth Edge = 0
depth (Maybe τ) = suc (depth τ)
depth (Group τ) = suc (depth τ)

meet_same : (τ : Ty) (d : Dec (τ ≡ τ)) (d₂ : Dec (τ ≡ Maybe τ)) (d₃ : Dec (τ ≡ Maybe τ)) → join_ty τ τ d d₂ d₃ ≡ typed τ
unfolding opened
meet_same τ (yes p) d₂ d₃ = refl
meet_same τ (no n) d₂ d₃ = absurd (n refl)

meet_left : (τ : Ty) (d : Dec (τ ≡ Maybe τ)) (d₂ : Dec (Maybe τ ≡ Maybe τ)) (d₃ : Dec (τ ≡ Maybe (Maybe τ))) → join_ty τ (Maybe τ) d d₂ d₃ ≡ typed (Maybe τ)
unfolding opened
meet_left τ (yes p) d₂ d₃ = ap typed p
meet_left τ (no n) (yes p) d₃ = refl
meet_left τ (no n) (no m) d₃ = absurd (m refl)

meet_right : (τ : Ty) (d : Dec (Maybe τ ≡ τ)) (d₂ : Dec (τ ≡ Maybe (Maybe τ))) (d₃ : Dec (Maybe τ ≡ Maybe τ)) → join_ty (Maybe τ) τ d d₂ d₃ ≡ typed (Maybe τ)
unfolding opened depth
meet_right τ (yes p) d₂ d₃ = refl
meet_right τ (no n) (yes p) d₃ = absurd (omega (arith, ap depth p))
meet_right τ (no n) (no m) (yes p) = refl
meet_right τ (no n) (no m) (no k) = absurd (k refl)

concatenation_ty_single : {τ : Ty} → Single τ → concatenation_ty (typed τ) (typed τ) ≡ typed τ
unfolding opened
concatenation_ty_single one_node = refl
concatenation_ty_single one_edge = refl

single_true : {τ : Ty} → Single τ → single (typed τ) ≡ true
unfolding opened
single_true one_node = refl
single_true one_edge = refl

mutual
  unfolding opened

  has→ : {π : Pattern} {x : ℕ} {τ : Ty} → Has π x τ → type_of π x ≡ typed τ
  has→ (has_node {x = x}) = ap (named_ty Node) (eq-eqb x x refl)
  has→ (has_edge {x = x}) = ap (named_ty Edge) (eq-eqb x x refl)
  has→ (has_group h) = ap repetition_ty (has→ h)
  has→ (has_conditioned {a} {θ} {z} f h) = ap (λ t. conditioned_ty t (type_of a z) (in_var (conditioned a θ) z)) (fits⇒ f) ∙ has→ h
  has→ (has_both {τ = τ} h k) = ap₂ union_ty (has→ h) (has→ k) ∙ meet_same τ (Ty-discrete τ τ) (Ty-discrete τ (Maybe τ)) (Ty-discrete τ (Maybe τ))
  has→ (has_left_maybe {τ = τ} h k) = ap₂ union_ty (has→ h) (has→ k) ∙ meet_left τ (Ty-discrete τ (Maybe τ)) (Ty-discrete (Maybe τ) (Maybe τ)) (Ty-discrete τ (Maybe (Maybe τ)))
  has→ (has_right_maybe {τ = τ} h k) = ap₂ union_ty (has→ h) (has→ k) ∙ meet_right τ (Ty-discrete (Maybe τ) τ) (Ty-discrete τ (Maybe (Maybe τ))) (Ty-discrete (Maybe τ) (Maybe τ))
  has→ (has_left {b = b} {z = z} h u e) = ap₂ union_ty (has→ h) (unused→absent b z u) ∙ ap typed (sym e)
  has→ (has_right {a = a} {z = z} h u e) = ap₂ union_ty (unused→absent a z u) (has→ h) ∙ ap typed (sym e)
  has→ (has_shared h k s) = ap₂ concatenation_ty (has→ h) (has→ k) ∙ concatenation_ty_single s
  has→ (has_first {b = b} {z = z} h u) = ap₂ concatenation_ty (has→ h) (unused→absent b z u)
  has→ (has_second {a = a} {z = z} h u) = ap₂ concatenation_ty (unused→absent a z u) (has→ h)

  fits⇒ : {a : Pattern} {θ : Condition} → Fits a θ → fits (type_of a) θ ≡ true
  fits⇒ (fits_constant h s) = ap single (has→ h) ∙ single_true s
  fits⇒ (fits_property h k s t) = ap₂ ◌&&◌ (ap single (has→ h) ∙ single_true s) (ap single (has→ k) ∙ single_true t)
  fits⇒ (fits_and s t) = ap₂ ◌&&◌ (fits⇒ s) (fits⇒ t)
  fits⇒ (fits_or s t) = ap₂ ◌&&◌ (fits⇒ s) (fits⇒ t)
  fits⇒ (fits_neg s) = fits⇒ s

pub has_iff : (π : Pattern) (x : ℕ) (τ : Ty) → (type_of π x ≡ typed τ) ↔ Has π x τ
unfolding opened
has_iff π x τ = (typed→has π x τ, has→)

-- Definition 1, computed
pub well_typed_iff : (π : Pattern) → WellTyped π ↔ ((x : ℕ) → type_of π x ≢ clash)
unfolding opened
well_typed_iff π = (there, back)
  where
    there : WellTyped π → (x : ℕ) → type_of π x ≢ clash
    there w x e = go (in_var π x) refl
      where
        go : (b : Bool) → in_var π x ≡ b → ⊥
        go true q = no_clash_typed (sym e ∙ has→ (w x q).1)
        go false q = no_clash_absent (sym e ∙ unused→absent π x q)

    back : ((x : ℕ) → type_of π x ≢ clash) → WellTyped π
    back w x u = go (type_of π x) refl
      where
        go : (f : Found) → type_of π x ≡ f → (τ : Ty) × Has π x τ
        go absent e = no_true (sym u ∙ absent→unused π x e)
        go clash e = absurd (w x e)
        go (typed τ) e = (τ, typed→has π x τ e)
