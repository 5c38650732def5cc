-- The parts of a well-typed pattern are well-typed.
use mathlib.Core.Path.{◌∙◌, ◌≡◌, ap, refl, sym}
use mathlib.Core.Bool.{Bool, false, true}
use Prim.Native.Nat.{ℕ}
use Rattle.meaning.proofs.Logic.{no_false, or_l}
use Rattle.meaning.proofs.Opened.{opened}
use Rattle.meaning.proofs.Types.{well_typed_iff}
use Rattle.meaning.proofs.Unused.{no_clash_absent, unused→absent}
use Rattle.meaning.specs.Pattern.{Pattern, concatenation, conditioned, edge, in_condition, in_var, node, repetition, union}
use Rattle.meaning.specs.Typing.{Found, WellTyped, absent, clash, concatenation_ty, conditioned_ty, fits, repetition_ty, type_of, typed, union_ty}

abbrev pub PartsTyped : Pattern → Type 0
PartsTyped (node x l) = Unit {0}
PartsTyped (edge d x l) = Unit {0}
PartsTyped (union a b) = WellTyped a × WellTyped b
PartsTyped (concatenation a b) = WellTyped a × WellTyped b
PartsTyped (conditioned a θ) = WellTyped a
PartsTyped (repetition a n m) = WellTyped a

-- a clash in a part is a clash in the whole
union_left : (f g : Found) → f ≡ clash → union_ty f g ≡ clash
unfolding opened
union_left f absent e = ap (λ (h : Found). union_ty h absent) e
union_left f clash e = ap (λ (h : Found). union_ty h clash) e
union_left f (typed σ) e = ap (λ (h : Found). union_ty h (typed σ)) e

union_right : (f g : Found) → g ≡ clash → union_ty f g ≡ clash
unfolding opened
union_right absent g e = ap (union_ty absent) e
union_right clash g e = ap (union_ty clash) e
union_right (typed τ) g e = ap (union_ty (typed τ)) e

concatenation_left : (f g : Found) → f ≡ clash → concatenation_ty f g ≡ clash
unfolding opened
concatenation_left f g e = ap (λ (h : Found). concatenation_ty h g) e

concatenation_right : (f g : Found) → g ≡ clash → concatenation_ty f g ≡ clash
unfolding opened
concatenation_right absent g e = e
concatenation_right clash g e = refl
concatenation_right (typed τ) g e = ap (concatenation_ty (typed τ)) e

clash_used : (π : Pattern) (x : ℕ) → type_of π x ≡ clash → in_var π x ≡ true
unfolding opened
clash_used π x e = go (in_var π x) refl
  where
    go : (b : Bool) → in_var π x ≡ b → in_var π x ≡ true
    go true q = q
    go false q = no_clash_absent (sym e ∙ unused→absent π x q)

conditioned_clash : (t u : Bool) (f : Found) → u ≡ true → f ≡ clash → conditioned_ty t f u ≡ clash
unfolding opened
conditioned_clash true u f h e = e
conditioned_clash false true f h e = refl
conditioned_clash false false f h e = no_false h

-- no clash in the whole, so none in a part
part_typed : (a π : Pattern) → ((x : ℕ) → type_of a x ≡ clash → type_of π x ≡ clash) → WellTyped π → WellTyped a
part_typed a π up w = (well_typed_iff a).1 (λ x e. (well_typed_iff π).0 w x (up x e))

pub parts_typed : (π : Pattern) → WellTyped π → PartsTyped π
unfolding opened
parts_typed (node x l) w = tt
parts_typed (edge d x l) w = tt
parts_typed (union a b) w = (part_typed a (union a b) (λ x. union_left (type_of a x) (type_of b x)) w, part_typed b (union a b) (λ x. union_right (type_of a x) (type_of b x)) w)
parts_typed (concatenation a b) w = (part_typed a (concatenation a b) (λ x. concatenation_left (type_of a x) (type_of b x)) w, part_typed b (concatenation a b) (λ x. concatenation_right (type_of a x) (type_of b x)) w)
parts_typed (conditioned a θ) w = part_typed a (conditioned a θ) (λ x e. conditioned_clash (fits (type_of a) θ) (in_var (conditioned a θ) x) (type_of a x) (or_l (in_var a x) (in_condition θ x) (clash_used a x e)) e) w
parts_typed (repetition a n m) w = part_typed a (repetition a n m) (λ x e. ap repetition_ty e) w
