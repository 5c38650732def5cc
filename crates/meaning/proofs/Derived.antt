-- A computed type is derived by Figure 2's rules.
use mathlib.Core.Path.{◌∙◌, ◌≡◌, ap, refl, sym}
use mathlib.Core.Option.{Option, none, some}
use mathlib.Core.Bool.{Bool, false, true}
use Prim.Native.Nat.{ℕ}
use lib.Dec.{eqb}
use borrow.Author.Tests.{eqb-true}
use Rattle.meaning.proofs.Logic.{and_l, and_r, no_false}
use Rattle.meaning.proofs.Opened.{opened}
use Rattle.meaning.proofs.Unused.{absent→unused, no_absent_typed, no_clash_typed, typed_inj}
use Rattle.meaning.specs.Pattern.{Condition, Pattern, and, concatenation, conditioned, edge, equals_constant, equals_property, in_var, named, neg, node, or, repetition, union}
use Rattle.meaning.specs.Typing.{Edge, Fits, Found, Group, Has, Maybe, Node, Single, Ty, Ty-discrete, absent, clash, concatenation_ty, conditioned_ty, fits, fits_and, fits_constant, fits_neg, fits_or, fits_property, has_both, has_conditioned, has_edge, has_first, has_group, has_left, has_left_maybe, has_node, has_right, has_right_maybe, has_second, has_shared, join_ty, named_ty, one_edge, one_node, repetition_ty, single, type_of, typed, union_ty}

single_typed : (τ : Ty) → single (typed τ) ≡ true → Single τ
unfolding opened
single_typed Node e = one_node
single_typed Edge e = one_edge
single_typed (Maybe τ) e = no_false e
single_typed (Group τ) e = no_false e

single→ : (f : Found) → single f ≡ true → (τ : Ty) × (f ≡ typed τ) × Single τ
unfolding opened
single→ absent e = no_false e
single→ clash e = no_false e
single→ (typed τ) e = (τ, refl, single_typed τ e)

named→ : (y : Option ℕ) (x : ℕ) (τ σ : Ty) → named_ty τ (named y x) ≡ typed σ → (y ≡ some x) × (σ ≡ τ)
unfolding opened
named→ none x τ σ e = no_absent_typed e
named→ (some y) x τ σ e = go (eqb y x) refl e
  where
    go : (b : Bool) → eqb y x ≡ b → named_ty τ b ≡ typed σ → (some y ≡ some x) × (σ ≡ τ)
    go true q e = (ap some (eqb-true y x q), sym (typed_inj e))
    go false q e = no_absent_typed e

module _ (a b : Pattern) (x : ℕ) (ha : (τ : Ty) → type_of a x ≡ typed τ → Has a x τ) (hb : (τ : Ty) → type_of b x ≡ typed τ → Has b x τ) where
  meet→ : (τ σ υ : Ty) → type_of a x ≡ typed τ → type_of b x ≡ typed σ → (d : Dec (τ ≡ σ)) (d₂ : Dec (σ ≡ Maybe τ)) (d₃ : Dec (τ ≡ Maybe σ)) → join_ty τ σ d d₂ d₃ ≡ typed υ → Has (union a b) x υ
  unfolding opened
  meet→ τ σ υ p q (yes r) d₂ d₃ e = has_both (ha υ (p ∙ e)) (hb υ (q ∙ (ap typed (sym r) ∙ e)))
  meet→ τ σ υ p q (no n) (yes r) d₃ e = rw (← typed_inj e) (rw r (has_left_maybe (ha τ p) (hb (Maybe τ) (q ∙ ap typed r))))
  meet→ τ σ υ p q (no n) (no n₂) (yes r) e = rw (← typed_inj e) (rw r (has_right_maybe (ha (Maybe σ) (p ∙ ap typed r)) (hb σ q)))
  meet→ τ σ υ p q (no n) (no n₂) (no n₃) e = no_clash_typed e

  union→ : (f g : Found) (υ : Ty) → type_of a x ≡ f → type_of b x ≡ g → union_ty f g ≡ typed υ → Has (union a b) x υ
  unfolding opened
  union→ absent absent υ p q e = no_absent_typed e
  union→ absent clash υ p q e = no_clash_typed e
  union→ absent (typed σ) υ p q e = has_right (hb σ q) (absent→unused a x p) (sym (typed_inj e))
  union→ clash absent υ p q e = no_clash_typed e
  union→ clash clash υ p q e = no_clash_typed e
  union→ clash (typed σ) υ p q e = no_clash_typed e
  union→ (typed τ) absent υ p q e = has_left (ha τ p) (absent→unused b x q) (sym (typed_inj e))
  union→ (typed τ) clash υ p q e = no_clash_typed e
  union→ (typed τ) (typed σ) υ p q e = meet→ τ σ υ p q (Ty-discrete τ σ) (Ty-discrete σ (Maybe τ)) (Ty-discrete τ (Maybe σ)) e

  concatenation→ : (f g : Found) (υ : Ty) → type_of a x ≡ f → type_of b x ≡ g → concatenation_ty f g ≡ typed υ → Has (concatenation a b) x υ
  unfolding opened
  concatenation→ absent g υ p q e = has_second (hb υ (q ∙ e)) (absent→unused a x p)
  concatenation→ clash g υ p q e = no_clash_typed e
  concatenation→ (typed τ) absent υ p q e = has_first (ha υ (p ∙ e)) (absent→unused b x q)
  concatenation→ (typed τ) clash υ p q e = no_clash_typed e
  concatenation→ (typed Node) (typed Node) υ p q e = rw (← typed_inj e) (has_shared (ha Node p) (hb Node q) one_node)
  concatenation→ (typed Node) (typed Edge) υ p q e = no_clash_typed e
  concatenation→ (typed Node) (typed (Maybe σ)) υ p q e = no_clash_typed e
  concatenation→ (typed Node) (typed (Group σ)) υ p q e = no_clash_typed e
  concatenation→ (typed Edge) (typed Edge) υ p q e = rw (← typed_inj e) (has_shared (ha Edge p) (hb Edge q) one_edge)
  concatenation→ (typed Edge) (typed Node) υ p q e = no_clash_typed e
  concatenation→ (typed Edge) (typed (Maybe σ)) υ p q e = no_clash_typed e
  concatenation→ (typed Edge) (typed (Group σ)) υ p q e = no_clash_typed e
  concatenation→ (typed (Maybe τ)) (typed σ) υ p q e = no_clash_typed e
  concatenation→ (typed (Group τ)) (typed σ) υ p q e = no_clash_typed e

fits→ : (a : Pattern) → ((x : ℕ) (τ : Ty) → type_of a x ≡ typed τ → Has a x τ) → (θ : Condition) → fits (type_of a) θ ≡ true → Fits a θ
unfolding opened
fits→ a h (equals_constant x k c) e = let s = single→ (type_of a x) e in fits_constant (h x s.0 s.1) s.2
fits→ a h (equals_property x k y l) e =
    let s = single→ (type_of a x) (and_l (single (type_of a x)) (single (type_of a y)) e) in
    let t = single→ (type_of a y) (and_r (single (type_of a x)) (single (type_of a y)) e) in
    fits_property (h x s.0 s.1) (h y t.0 t.1) s.2 t.2
fits→ a h (and s t) e = fits_and (fits→ a h s (and_l (fits (type_of a) s) (fits (type_of a) t) e)) (fits→ a h t (and_r (fits (type_of a) s) (fits (type_of a) t) e))
fits→ a h (or s t) e = fits_or (fits→ a h s (and_l (fits (type_of a) s) (fits (type_of a) t) e)) (fits→ a h t (and_r (fits (type_of a) s) (fits (type_of a) t) e))
fits→ a h (neg s) e = fits_neg (fits→ a h s e)

pub typed→has : (π : Pattern) (x : ℕ) (τ : Ty) → type_of π x ≡ typed τ → Has π x τ
unfolding opened
typed→has (node y l) x τ e = let p = named→ y x Node τ e in rw (p.0, p.1) has_node
typed→has (edge d y l) x τ e = let p = named→ y x Edge τ e in rw (p.0, p.1) has_edge
typed→has (union a b) x τ e = union→ a b x (typed→has a x) (typed→has b x) (type_of a x) (type_of b x) τ refl refl e
typed→has (concatenation a b) x τ e = concatenation→ a b x (typed→has a x) (typed→has b x) (type_of a x) (type_of b x) τ refl refl e
typed→has (conditioned a θ) x τ e = go (typed→has a) (fits (type_of a) θ) (in_var (conditioned a θ) x) refl e
  where
    go : ((x : ℕ) (τ : Ty) → type_of a x ≡ typed τ → Has a x τ) → (t u : Bool) → fits (type_of a) θ ≡ t → conditioned_ty t (type_of a x) u ≡ typed τ → Has (conditioned a θ) x τ
    go h true u q e = has_conditioned (fits→ a h θ q) (h x τ e)
    go h false true q e = no_clash_typed e
    go h false false q e = no_absent_typed e
typed→has (repetition a n m) x τ e = go (typed→has a x) (type_of a x) refl e
  where
    go : ((τ : Ty) → type_of a x ≡ typed τ → Has a x τ) → (f : Found) → type_of a x ≡ f → repetition_ty f ≡ typed τ → Has (repetition a n m) x τ
    go h absent q e = no_absent_typed e
    go h clash q e = no_clash_typed e
    go h (typed σ) q e = rw (← typed_inj e) (has_group (h σ q))
