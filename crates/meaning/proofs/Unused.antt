-- A computed type is absent just where the variable is not used.
use mathlib.Core.Path.{◌∙◌, ◌≡◌, ap, refl, sym}
use mathlib.Core.Bool.{Bool, false, true}
use Prim.Native.Nat.{ℕ}
use native.Mathlib.Omega.{arith}
use lib.Dec.{eqb}
use borrow.Author.Tests.{eq-eqb, eqb-true}
use Rattle.meaning.proofs.Logic.{and_l, and_r, either, no_false, or_cases, or_false_both, or_false_l, or_false_r, or_l}
use Rattle.meaning.proofs.Opened.{opened}
use Rattle.meaning.specs.Pattern.{Condition, Pattern, and, concatenation, conditioned, edge, equals_constant, equals_property, in_condition, in_var, named, neg, node, or, repetition, union}
use Rattle.meaning.specs.Typing.{Edge, Found, Group, Maybe, Node, Ty, Ty-discrete, absent, clash, concatenation_ty, conditioned_ty, fits, join_ty, named_ty, repetition_ty, single, type_of, typed, union_ty}

module _ {A : Type 0} where
  pub no_absent_typed : {τ : Ty} → absent ≡ typed τ → A
  unfolding opened
  no_absent_typed e = let z : ◌≡◌ {A = ℕ} 0 1 = cc in absurd (omega arith)

  pub no_clash_typed : {τ : Ty} → clash ≡ typed τ → A
  unfolding opened
  no_clash_typed e = let z : ◌≡◌ {A = ℕ} 0 1 = cc in absurd (omega arith)

  pub no_clash_absent : clash ≡ absent → A
  unfolding opened
  no_clash_absent e = let z : ◌≡◌ {A = ℕ} 0 1 = cc in absurd (omega arith)

  pub no_typed_absent : {τ : Ty} → typed τ ≡ absent → A
  unfolding opened
  no_typed_absent e = let z : ◌≡◌ {A = ℕ} 0 1 = cc in absurd (omega arith)

pub typed_inj : {τ σ : Ty} → typed τ ≡ typed σ → τ ≡ σ
unfolding opened
typed_inj e = cc

named_ty_absent : (τ : Ty) (b : Bool) → named_ty τ b ≡ absent → b ≡ false
unfolding opened
named_ty_absent τ true e = no_typed_absent e
named_ty_absent τ false e = refl

union_ty_absent : (f g : Found) → union_ty f g ≡ absent → (f ≡ absent) × (g ≡ absent)
unfolding opened
union_ty_absent absent absent e = (refl, refl)
union_ty_absent absent clash e = no_clash_absent e
union_ty_absent absent (typed σ) e = no_typed_absent e
union_ty_absent clash absent e = no_clash_absent e
union_ty_absent clash clash e = no_clash_absent e
union_ty_absent clash (typed σ) e = no_clash_absent e
union_ty_absent (typed τ) absent e = no_typed_absent e
union_ty_absent (typed τ) clash e = no_clash_absent e
union_ty_absent (typed τ) (typed σ) e = go (Ty-discrete τ σ) (Ty-discrete σ (Maybe τ)) (Ty-discrete τ (Maybe σ)) e
  where
    go : (d : Dec (τ ≡ σ)) (d₂ : Dec (σ ≡ Maybe τ)) (d₃ : Dec (τ ≡ Maybe σ)) → join_ty τ σ d d₂ d₃ ≡ absent → (typed τ ≡ absent) × (typed σ ≡ absent)
    go (yes p) d₂ d₃ e = no_typed_absent e
    go (no p) (yes q) d₃ e = no_typed_absent e
    go (no p) (no q) (yes r) e = no_typed_absent e
    go (no p) (no q) (no r) e = no_clash_absent e

concatenation_ty_absent : (f g : Found) → concatenation_ty f g ≡ absent → (f ≡ absent) × (g ≡ absent)
unfolding opened
concatenation_ty_absent absent g e = (refl, e)
concatenation_ty_absent clash g e = no_clash_absent e
concatenation_ty_absent (typed τ) absent e = no_typed_absent e
concatenation_ty_absent (typed τ) clash e = no_clash_absent e
concatenation_ty_absent (typed Node) (typed Node) e = no_typed_absent e
concatenation_ty_absent (typed Node) (typed Edge) e = no_clash_absent e
concatenation_ty_absent (typed Node) (typed (Maybe σ)) e = no_clash_absent e
concatenation_ty_absent (typed Node) (typed (Group σ)) e = no_clash_absent e
concatenation_ty_absent (typed Edge) (typed Edge) e = no_typed_absent e
concatenation_ty_absent (typed Edge) (typed Node) e = no_clash_absent e
concatenation_ty_absent (typed Edge) (typed (Maybe σ)) e = no_clash_absent e
concatenation_ty_absent (typed Edge) (typed (Group σ)) e = no_clash_absent e
concatenation_ty_absent (typed (Maybe τ)) (typed σ) e = no_clash_absent e
concatenation_ty_absent (typed (Group τ)) (typed σ) e = no_clash_absent e

repetition_ty_absent : (f : Found) → repetition_ty f ≡ absent → f ≡ absent
unfolding opened
repetition_ty_absent absent e = refl
repetition_ty_absent clash e = no_clash_absent e
repetition_ty_absent (typed τ) e = no_typed_absent e

-- a condition names some variable
pub condition_variable : (θ : Condition) → (x : ℕ) × (in_condition θ x ≡ true)
unfolding opened
condition_variable (equals_constant x k c) = (x, eq-eqb x x refl)
condition_variable (equals_property x k y l) = (x, or_l (eqb x x) (eqb y x) (eq-eqb x x refl))
condition_variable (and s t) = let h = condition_variable s in (h.0, or_l (in_condition s h.0) (in_condition t h.0) h.1)
condition_variable (or s t) = let h = condition_variable s in (h.0, or_l (in_condition s h.0) (in_condition t h.0) h.1)
condition_variable (neg s) = condition_variable s

-- a condition that fits names only single variables
named_single : (f : ℕ → Found) (y x : ℕ) → single (f y) ≡ true → eqb y x ≡ true → single (f x) ≡ true
unfolding opened
named_single f y x h e = rw (eqb-true y x e) at h

pub fits_names : (f : ℕ → Found) (θ : Condition) (x : ℕ) → fits f θ ≡ true → in_condition θ x ≡ true → single (f x) ≡ true
unfolding opened
fits_names f (equals_constant y k c) x h e = named_single f y x h e
fits_names f (equals_property y k z l) x h e = either (or_cases (eqb y x) (eqb z x) e) (named_single f y x (and_l (single (f y)) (single (f z)) h)) (named_single f z x (and_r (single (f y)) (single (f z)) h))
fits_names f (and s t) x h e = either (or_cases (in_condition s x) (in_condition t x) e) (fits_names f s x (and_l (fits f s) (fits f t) h)) (fits_names f t x (and_r (fits f s) (fits f t) h))
fits_names f (or s t) x h e = either (or_cases (in_condition s x) (in_condition t x) e) (fits_names f s x (and_l (fits f s) (fits f t) h)) (fits_names f t x (and_r (fits f s) (fits f t) h))
fits_names f (neg s) x h e = fits_names f s x h e

no_single_absent : {A : Type 0} (f : Found) → f ≡ absent → single f ≡ true → A
unfolding opened
no_single_absent f e h = no_false (ap single (sym e) ∙ h)

pub absent→unused : (π : Pattern) (x : ℕ) → type_of π x ≡ absent → in_var π x ≡ false
unfolding opened
absent→unused (node y l) x e = named_ty_absent Node (named y x) e
absent→unused (edge d y l) x e = named_ty_absent Edge (named y x) e
absent→unused (union a b) x e = let p = union_ty_absent (type_of a x) (type_of b x) e in or_false_both (in_var a x) (in_var b x) (absent→unused a x p.0) (absent→unused b x p.1)
absent→unused (concatenation a b) x e = let p = concatenation_ty_absent (type_of a x) (type_of b x) e in or_false_both (in_var a x) (in_var b x) (absent→unused a x p.0) (absent→unused b x p.1)
absent→unused (conditioned a θ) x e = go (absent→unused a x) (fits (type_of a) θ) (in_var (conditioned a θ) x) (in_condition θ x) refl refl refl e
  where
    go : (type_of a x ≡ absent → in_var a x ≡ false) → (t u c : Bool) → fits (type_of a) θ ≡ t → in_var (conditioned a θ) x ≡ u → in_condition θ x ≡ c → conditioned_ty t (type_of a x) u ≡ absent → in_var (conditioned a θ) x ≡ false
    go ih true u false q r s e = or_false_both (in_var a x) (in_condition θ x) (ih e) s
    go ih true u true q r s e = no_single_absent (type_of a x) e (fits_names (type_of a) θ x q s)
    go ih false true c q r s e = no_clash_absent e
    go ih false false c q r s e = r
absent→unused (repetition a n m) x e = absent→unused a x (repetition_ty_absent (type_of a x) e)

pub unused→absent : (π : Pattern) (x : ℕ) → in_var π x ≡ false → type_of π x ≡ absent
unfolding opened
unused→absent (node y l) x e = ap (named_ty Node) e
unused→absent (edge d y l) x e = ap (named_ty Edge) e
unused→absent (union a b) x e = rw (unused→absent a x (or_false_l (in_var a x) (in_var b x) e), unused→absent b x (or_false_r (in_var a x) (in_var b x) e)) refl
unused→absent (concatenation a b) x e = rw (unused→absent a x (or_false_l (in_var a x) (in_var b x) e), unused→absent b x (or_false_r (in_var a x) (in_var b x) e)) refl
unused→absent (conditioned a θ) x e = go (fits (type_of a) θ) (unused→absent a x (or_false_l (in_var a x) (in_condition θ x) e))
  where
    go : (t : Bool) → type_of a x ≡ absent → conditioned_ty t (type_of a x) (in_var (conditioned a θ) x) ≡ absent
    go true h = h
    go false h = ap (conditioned_ty false (type_of a x)) e
unused→absent (repetition a n m) x e = ap repetition_ty (unused→absent a x e)

-- a variable with a type is used
pub typed→used : (π : Pattern) (x : ℕ) {τ : Ty} → type_of π x ≡ typed τ → in_var π x ≡ true
unfolding opened
typed→used π x e = go (in_var π x) refl
  where
    go : (b : Bool) → in_var π x ≡ b → in_var π x ≡ true
    go true q = q
    go false q = no_typed_absent (sym e ∙ unused→absent π x q)
