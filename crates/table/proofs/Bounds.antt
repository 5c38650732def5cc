-- The number of a type under at most two repetitions is small.
use mathlib.Core.Path.{◌≡◌, refl}
use mathlib.Core.Bool.{Bool, true, false}
use Prim.Native.Nat.{ℕ, zero, suc, ◌+◌, ◌*◌, ◌<◌, ◌≤◌}
use native.Mathlib.Omega.{arith}
use lib.Dec.{eqb}
use borrow.Author.Tests.{eqb-true, eqb-false}
use Rattle.meaning.proofs.TypeWords.{max_l, max_r}
use Rattle.meaning.specs.Basics.{max}
use Rattle.meaning.specs.Pattern.{Pattern, node, edge, union, concatenation, conditioned, repetition, named, nesting}
use Rattle.meaning.specs.Typing.{Ty, Ty-discrete, Node, Edge, Maybe, Group, Found, absent, clash, typed, opt, join_ty, union_ty, concatenation_ty, repetition_ty, named_ty}
use Rattle.typecode.specs.Codes.{ty_code, code_of}
use Rattle.table.specs.Typing.{plain_of}

-- the greatest number under n repetitions of a type that is no Maybe
cap : ℕ → ℕ
cap zero = 2
cap (suc n) = 8 * (8 * cap n + 3) + 4

cap_rises : (n m : ℕ) → n ≤ m → cap n ≤ cap m
unfolding cap
cap_rises n zero h = let e : n ≡ 0 = omega arith in rw e (omega arith)
cap_rises n (suc m) h = go (eqb n (suc m)) refl (cap_rises n m)
  where
    go : (b : Bool) → eqb n (suc m) ≡ b → (n ≤ m → cap n ≤ cap m) → cap n ≤ cap (suc m)
    go true e ih = rw (eqb-true n (suc m) e) (omega arith)
    go false e ih = let z : n ≡ suc m → ⊥ = eqb-false n (suc m) e in let k = ih (omega arith) in omega arith

abbrev Fits : ℕ → Ty → Type 0
Fits n Node = ty_code Node ≤ cap n
Fits n Edge = ty_code Edge ≤ cap n
Fits n (Maybe τ) = ty_code (Maybe τ) ≤ 8 * cap n + 3
Fits n (Group τ) = ty_code (Group τ) ≤ cap n

abbrev Held : ℕ → Found → Type 0
Held n absent = Unit {0}
Held n clash = Unit {0}
Held n (typed τ) = Fits n τ

fits_small : (n : ℕ) (τ : Ty) → Fits n τ → ty_code τ ≤ 8 * cap n + 3
fits_small n Node h = omega (arith, h)
fits_small n Edge h = omega (arith, h)
fits_small n (Maybe τ) h = h
fits_small n (Group τ) h = omega (arith, h)

fits_rises : (n m : ℕ) → n ≤ m → (τ : Ty) → Fits n τ → Fits m τ
fits_rises n m l Node h = omega (arith, h, cap_rises n m l)
fits_rises n m l Edge h = omega (arith, h, cap_rises n m l)
fits_rises n m l (Maybe τ) h = omega (arith, h, cap_rises n m l)
fits_rises n m l (Group τ) h = omega (arith, h, cap_rises n m l)

held_rises : (n m : ℕ) → n ≤ m → (f : Found) → Held n f → Held m f
held_rises n m l absent h = tt
held_rises n m l clash h = tt
held_rises n m l (typed τ) h = fits_rises n m l τ h

opt_held : (n : ℕ) (τ : Ty) → Fits n τ → Fits n (opt τ)
unfolding opt ty_code
opt_held n Node h = omega (arith, h)
opt_held n Edge h = omega (arith, h)
opt_held n (Maybe τ) h = h
opt_held n (Group τ) h = omega (arith, h)

meet_held : (n : ℕ) (τ σ : Ty) (d₁ : Dec (τ ≡ σ)) (d₂ : Dec (σ ≡ Maybe τ)) (d₃ : Dec (τ ≡ Maybe σ)) → Fits n τ → Fits n σ → Held n (join_ty τ σ d₁ d₂ d₃)
unfolding join_ty
meet_held n τ σ (yes p) d₂ d₃ h k = h
meet_held n τ σ (no p) (yes q) d₃ h k = k
meet_held n τ σ (no p) (no q) (yes r) h k = h
meet_held n τ σ (no p) (no q) (no r) h k = tt

union_held : (n : ℕ) (f g : Found) → Held n f → Held n g → Held n (union_ty f g)
unfolding union_ty
union_held n absent absent h k = tt
union_held n absent clash h k = tt
union_held n absent (typed σ) h k = opt_held n σ k
union_held n clash absent h k = tt
union_held n clash clash h k = tt
union_held n clash (typed σ) h k = tt
union_held n (typed τ) absent h k = opt_held n τ h
union_held n (typed τ) clash h k = tt
union_held n (typed τ) (typed σ) h k = meet_held n τ σ (Ty-discrete τ σ) (Ty-discrete σ (Maybe τ)) (Ty-discrete τ (Maybe σ)) h k

concatenation_held : (n : ℕ) (f g : Found) → Held n f → Held n g → Held n (concatenation_ty f g)
unfolding concatenation_ty
concatenation_held n absent g h k = k
concatenation_held n clash g h k = tt
concatenation_held n (typed τ) absent h k = h
concatenation_held n (typed τ) clash h k = tt
concatenation_held n (typed Node) (typed Node) h k = h
concatenation_held n (typed Node) (typed Edge) h k = tt
concatenation_held n (typed Node) (typed (Maybe σ)) h k = tt
concatenation_held n (typed Node) (typed (Group σ)) h k = tt
concatenation_held n (typed Edge) (typed Edge) h k = h
concatenation_held n (typed Edge) (typed Node) h k = tt
concatenation_held n (typed Edge) (typed (Maybe σ)) h k = tt
concatenation_held n (typed Edge) (typed (Group σ)) h k = tt
concatenation_held n (typed (Maybe τ)) (typed σ) h k = tt
concatenation_held n (typed (Group τ)) (typed σ) h k = tt

repetition_held : (n : ℕ) (f : Found) → Held n f → Held (suc n) (repetition_ty f)
unfolding repetition_ty ty_code cap
repetition_held n absent h = tt
repetition_held n clash h = tt
repetition_held n (typed τ) h = let k = fits_small n τ h in omega arith

named_held : (n : ℕ) (τ : Ty) (b : Bool) → Fits n τ → Held n (named_ty τ b)
unfolding named_ty
named_held n τ true h = h
named_held n τ false h = tt

plain_held : (π : Pattern) (x : ℕ) → Held (nesting π) (plain_of π x)
unfolding plain_of nesting ty_code cap
plain_held (node y l) x = named_held 0 Node (named y x) (omega arith)
plain_held (edge d y l) x = named_held 0 Edge (named y x) (omega arith)
plain_held (union a b) x = union_held (max (nesting a) (nesting b)) (plain_of a x) (plain_of b x) (held_rises (nesting a) _ (max_l (nesting a) (nesting b)) (plain_of a x) (plain_held a x)) (held_rises (nesting b) _ (max_r (nesting a) (nesting b)) (plain_of b x) (plain_held b x))
plain_held (concatenation a b) x = concatenation_held (max (nesting a) (nesting b)) (plain_of a x) (plain_of b x) (held_rises (nesting a) _ (max_l (nesting a) (nesting b)) (plain_of a x) (plain_held a x)) (held_rises (nesting b) _ (max_r (nesting a) (nesting b)) (plain_of b x) (plain_held b x))
plain_held (conditioned a θ) x = plain_held a x
plain_held (repetition a n m) x = repetition_held (nesting a) (plain_of a x) (plain_held a x)

held_small : (f : Found) → Held 2 f → code_of f < 262144
unfolding code_of cap
held_small absent h = omega arith
held_small clash h = omega arith
held_small (typed τ) h = let k = fits_small 2 τ h in omega arith

pub plain_small : (π : Pattern) (x : ℕ) → nesting π ≤ 2 → code_of (plain_of π x) < 262144
plain_small π x h = held_small (plain_of π x) (held_rises (nesting π) 2 h (plain_of π x) (plain_held π x))
