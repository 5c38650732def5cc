-- The 48 words tell each variable's type: six numbers are enough, none is lost, and a variable not used has six zeros.
use mathlib.Core.Path.{◌∙◌, ◌≡◌, ap, refl}
use mathlib.Core.List.{List, [], ◌++◌, ◌∷◌, head-eq_of_cons-eq, tail-eq_of_cons-eq}
use mathlib.Core.Bool.{Bool, false, true}
use Prim.Native.Nat.{◌*◌, ◌+◌, ◌-◌, ◌<◌, ◌≤◌, suc, zero, ℕ}
use native.Mathlib.Omega.{arith}
use lib.Dec.{leb}
use lib.ListN.{drop, length, replicate, take}
use lib.Seq.{drop-append-add}
use borrow.Author.Tests.{leb-false, leb-true}
use Rattle.meaning.proofs.Lists.{take_front}
use Rattle.meaning.proofs.Logic.{and_l, and_r}
use Rattle.meaning.proofs.Opened.{opened}
use Rattle.meaning.proofs.Types.{has_iff}
use Rattle.meaning.proofs.Unused.{unused→absent}
use Rattle.std.specs.Prelude.{if◌then◌else◌}
use Rattle.meaning.specs.Basics.{each, max, up_from}
use Rattle.meaning.specs.Pattern.{Pattern, in_var, nesting}
use Rattle.meaning.specs.Table.{found_words, is_variable_lem, padded, ty_words, type_words}
use Rattle.meaning.specs.Typing.{Edge, Found, Group, Has, Maybe, Node, Ty, has_both, has_conditioned, has_edge, has_first, has_group, has_left, has_left_maybe, has_node, has_right, has_right_maybe, has_second, has_shared, opt, type_of}

-- the numbers of a type without an outer Maybe
unfoldable core : Ty → ℕ
core Node = 1
core Edge = 1
core (Maybe τ) = length (ty_words τ)
core (Group τ) = suc (length (ty_words τ))

words_core : (τ : Ty) → length (ty_words τ) ≤ suc (core τ)
unfolding opened core
words_core Node = omega arith
words_core Edge = omega arith
words_core (Maybe τ) = omega arith
words_core (Group τ) = omega arith

opt_core : (τ : Ty) → core (opt τ) ≡ core τ
unfolding opened core
opt_core Node = refl
opt_core Edge = refl
opt_core (Maybe τ) = refl
opt_core (Group τ) = refl

pub max_l : (a b : ℕ) → a ≤ max a b
unfolding opened
max_l a b = go (leb a b) refl
  where
    go : (t : Bool) → leb a b ≡ t → a ≤ (if t then b else a)
    go true e = leb-true a b e
    go false e = omega arith

pub max_r : (a b : ℕ) → b ≤ max a b
unfolding opened
max_r a b = go (leb a b) refl
  where
    go : (t : Bool) → leb a b ≡ t → b ≤ (if t then b else a)
    go true e = omega arith
    go false e = let h : b < a = leb-false a b e in omega arith

-- each repetition adds two numbers at most
core_bound : {π : Pattern} {x : ℕ} {τ : Ty} → Has π x τ → core τ ≤ 2 * nesting π + 1
unfolding opened core
core_bound has_node = omega arith
core_bound has_edge = omega arith
core_bound (has_group {τ = τ} h) = omega (arith, core_bound h, words_core τ)
core_bound (has_conditioned f h) = core_bound h
core_bound (has_both {a = a} {b = b} h k) = omega (arith, core_bound h, max_l (nesting a) (nesting b))
core_bound (has_left_maybe {a = a} {b = b} h k) = omega (arith, core_bound k, max_r (nesting a) (nesting b))
core_bound (has_right_maybe {a = a} {b = b} h k) = omega (arith, core_bound h, max_l (nesting a) (nesting b))
core_bound (has_left {a = a} {b = b} {τ = τ} h u e) = omega (arith, core_bound h, max_l (nesting a) (nesting b), ap core e, opt_core τ)
core_bound (has_right {a = a} {b = b} {τ = τ} h u e) = omega (arith, core_bound h, max_r (nesting a) (nesting b), ap core e, opt_core τ)
core_bound (has_shared {a = a} {b = b} h k s) = omega (arith, core_bound h, max_l (nesting a) (nesting b))
core_bound (has_first {a = a} {b = b} h u) = omega (arith, core_bound h, max_l (nesting a) (nesting b))
core_bound (has_second {a = a} {b = b} h u) = omega (arith, core_bound h, max_r (nesting a) (nesting b))

pub type_fits : (π : Pattern) → nesting π ≤ 2 → (x : ℕ) (τ : Ty) → Has π x τ → length (ty_words τ) ≤ 6
unfolding opened
type_fits π n x τ h = omega (arith, core_bound h, words_core τ)

-- ------------------------------------------------------------------ blocks of six
pub length_padded : (l : List ℕ) → length (padded l) ≡ 6
unfolding opened
length_padded [] = refl
length_padded (a ∷ []) = refl
length_padded (a ∷ b ∷ []) = refl
length_padded (a ∷ b ∷ c ∷ []) = refl
length_padded (a ∷ b ∷ c ∷ d ∷ []) = refl
length_padded (a ∷ b ∷ c ∷ d ∷ e ∷ []) = refl
length_padded (a ∷ b ∷ c ∷ d ∷ e ∷ f ∷ l) = refl

pub padded_is : (l : List ℕ) → length l ≤ 6 → padded l ≡ l ++ replicate (6 - length l) 0
unfolding opened
padded_is [] h = refl
padded_is (a ∷ []) h = refl
padded_is (a ∷ b ∷ []) h = refl
padded_is (a ∷ b ∷ c ∷ []) h = refl
padded_is (a ∷ b ∷ c ∷ d ∷ []) h = refl
padded_is (a ∷ b ∷ c ∷ d ∷ e ∷ []) h = refl
padded_is (a ∷ b ∷ c ∷ d ∷ e ∷ f ∷ []) h = refl
padded_is (a ∷ b ∷ c ∷ d ∷ e ∷ f ∷ g ∷ l) h = absurd (omega arith)

-- the six words of variable x
unfoldable pub type_slot : List ℕ → ℕ → List ℕ
type_slot w x = take 6 (drop (6 * (x - 1)) w)

pub block : (f : ℕ → List ℕ) → ((x : ℕ) → length (f x) ≡ 6) → (n i k : ℕ) → k < n → take 6 (drop (6 * k) (each (up_from n i) f)) ≡ f (i + k)
unfolding opened
block f h zero i k l = absurd (omega arith)
block f h (suc n) i zero l = take_front 6 (f i) (each (up_from n (suc i)) f) (h i) ∙ (let e : i ≡ i + 0 = omega arith in ap f e)
block f h (suc n) i (suc k) l =
    let b : List ℕ = each (up_from n (suc i)) f in
    let e : 6 * suc k ≡ length (f i) + 6 * k = omega (arith, h i) in
    let e₂ : suc i + k ≡ i + suc k = omega arith in
    ap (λ (m : ℕ). take 6 (drop m (f i ++ b))) e ∙ (ap (λ (l : List ℕ). take 6 l) (drop-append-add (f i) b (6 * k)) ∙ (block f h n (suc i) k (omega arith) ∙ ap f e₂))

-- the six words of x are its type's numbers, padded
slot_is : (π : Pattern) (x : ℕ) → is_variable_lem x ≡ true → type_slot (type_words π) x ≡ padded (found_words (type_of π x))
unfolding opened type_slot
slot_is π x v =
    let a : 1 ≤ x = leb-true 1 x (and_l (leb 1 x) (leb x 8) v) in
    let b : x ≤ 8 = leb-true x 8 (and_r (leb 1 x) (leb x 8) v) in
    block (λ y. padded (found_words (type_of π y))) (λ y. length_padded (found_words (type_of π y))) 8 1 (x - 1) (omega arith) ∙ (let e : 1 + (x - 1) ≡ x = omega arith in ap (λ (y : ℕ). padded (found_words (type_of π y))) e)

-- a variable of the type τ by Figure 2: τ's numbers, then zeros up to six
pub types_told : (π : Pattern) → nesting π ≤ 2 → (x : ℕ) → is_variable_lem x ≡ true → (τ : Ty) → Has π x τ → type_slot (type_words π) x ≡ ty_words τ ++ replicate (6 - length (ty_words τ)) 0
unfolding opened
types_told π n x v τ h = slot_is π x v ∙ (ap (λ (f : Found). padded (found_words f)) ((has_iff π x τ).1 h) ∙ padded_is (ty_words τ) (type_fits π n x τ h))

-- a variable not used: six zeros
pub unused_told : (π : Pattern) (x : ℕ) → is_variable_lem x ≡ true → in_var π x ≡ false → type_slot (type_words π) x ≡ replicate 6 0
unfolding opened
unused_told π x v u = slot_is π x v ∙ ap (λ (f : Found). padded (found_words f)) (unused→absent π x u)

-- the numbers tell the type, whatever zeros follow
pub words_tell : (τ σ : Ty) (m n : ℕ) → ty_words τ ++ replicate m 0 ≡ ty_words σ ++ replicate n 0 → τ ≡ σ
unfolding opened
words_tell Node Node m n e = refl
words_tell Node Edge m n e = let z : ◌≡◌ {A = ℕ} 1 2 = head-eq_of_cons-eq e in absurd (omega arith)
words_tell Node (Maybe σ) m n e = let z : ◌≡◌ {A = ℕ} 1 3 = head-eq_of_cons-eq e in absurd (omega arith)
words_tell Node (Group σ) m n e = let z : ◌≡◌ {A = ℕ} 1 4 = head-eq_of_cons-eq e in absurd (omega arith)
words_tell Edge Node m n e = let z : ◌≡◌ {A = ℕ} 2 1 = head-eq_of_cons-eq e in absurd (omega arith)
words_tell Edge Edge m n e = refl
words_tell Edge (Maybe σ) m n e = let z : ◌≡◌ {A = ℕ} 2 3 = head-eq_of_cons-eq e in absurd (omega arith)
words_tell Edge (Group σ) m n e = let z : ◌≡◌ {A = ℕ} 2 4 = head-eq_of_cons-eq e in absurd (omega arith)
words_tell (Maybe τ) Node m n e = let z : ◌≡◌ {A = ℕ} 3 1 = head-eq_of_cons-eq e in absurd (omega arith)
words_tell (Maybe τ) Edge m n e = let z : ◌≡◌ {A = ℕ} 3 2 = head-eq_of_cons-eq e in absurd (omega arith)
words_tell (Maybe τ) (Maybe σ) m n e = ap Maybe (words_tell τ σ m n (tail-eq_of_cons-eq e))
words_tell (Maybe τ) (Group σ) m n e = let z : ◌≡◌ {A = ℕ} 3 4 = head-eq_of_cons-eq e in absurd (omega arith)
words_tell (Group τ) Node m n e = let z : ◌≡◌ {A = ℕ} 4 1 = head-eq_of_cons-eq e in absurd (omega arith)
words_tell (Group τ) Edge m n e = let z : ◌≡◌ {A = ℕ} 4 2 = head-eq_of_cons-eq e in absurd (omega arith)
words_tell (Group τ) (Maybe σ) m n e = let z : ◌≡◌ {A = ℕ} 4 3 = head-eq_of_cons-eq e in absurd (omega arith)
words_tell (Group τ) (Group σ) m n e = ap Group (words_tell τ σ m n (tail-eq_of_cons-eq e))
