-- Laws of truth values, options, sums and All that every other module cites.
use mathlib.Core.Path.{◌≡◌, ap₂, refl}
use mathlib.Core.List.Memᴰ
use mathlib.Core.List.{List, [], ◌∷◌}
use mathlib.Core.Option.{Option, none, some}
use mathlib.Core.Bool.{Bool, ◌&&◌, ◌||◌, false, not, true}
use mathlib.Core.Logic.{◌⊎◌, inl, inr}
use Prim.Native.Nat.{ℕ}
use native.Mathlib.Omega.{arith}
use lib.Dec.{eqb}
use borrow.Author.Tests.{eqb-true}
use Rattle.std.specs.Prelude.{if◌then◌else◌}
use Rattle.meaning.specs.Basics.{All, ◌∈◌, or_else}

module _ {A : Type 0} where
  pub no_true : true ≡ false → A
  no_true e = let z : ◌≡◌ {A = ℕ} 0 1 = cc in absurd (omega arith)

  pub no_false : false ≡ true → A
  no_false e = let z : ◌≡◌ {A = ℕ} 0 1 = cc in absurd (omega arith)

  pub no_some : {B : Type 0} {b : B} → some b ≡ none → A
  no_some e = let z : ◌≡◌ {A = ℕ} 0 1 = cc in absurd (omega arith)

  pub no_none : {B : Type 0} {b : B} → none ≡ some b → A
  no_none e = let z : ◌≡◌ {A = ℕ} 0 1 = cc in absurd (omega arith)

pub some_inj : {A : Type 0} {x y : A} → some x ≡ some y → x ≡ y
some_inj e = cc

pub either : {A B C : Type 0} → A ⊎ B → (A → C) → (B → C) → C
either (inl a) f g = f a
either (inr b) f g = g b

pub and_both : {a b : Bool} → a ≡ true → b ≡ true → (a && b) ≡ true
and_both e f = ap₂ ◌&&◌ e f

pub and_l : (a b : Bool) → (a && b) ≡ true → a ≡ true
and_l true b e = refl
and_l false b e = no_false e

pub and_r : (a b : Bool) → (a && b) ≡ true → b ≡ true
and_r true b e = e
and_r false b e = no_false e

pub both_equal : (a b c d : ℕ) → (eqb a b && eqb c d) ≡ true → (a ≡ b) × (c ≡ d)
both_equal a b c d e = (eqb-true a b (and_l (eqb a b) (eqb c d) e), eqb-true c d (and_r (eqb a b) (eqb c d) e))

pub and_false : (a b : Bool) → (a && b) ≡ false → (a ≡ false) ⊎ (b ≡ false)
and_false true b e = inr e
and_false false b e = inl refl

pub or_l : (a b : Bool) → a ≡ true → (a || b) ≡ true
or_l true b e = refl
or_l false b e = no_false e

pub or_r : (a b : Bool) → b ≡ true → (a || b) ≡ true
or_r true b e = refl
or_r false b e = e

pub or_cases : (a b : Bool) → (a || b) ≡ true → (a ≡ true) ⊎ (b ≡ true)
or_cases true b e = inl refl
or_cases false b e = inr e

pub or_false_l : (a b : Bool) → (a || b) ≡ false → a ≡ false
or_false_l true b e = no_true e
or_false_l false b e = refl

pub or_false_r : (a b : Bool) → (a || b) ≡ false → b ≡ false
or_false_r true b e = no_true e
or_false_r false b e = e

pub or_false_both : (a b : Bool) → a ≡ false → b ≡ false → (a || b) ≡ false
or_false_both true b e f = no_true e
or_false_both false b e f = f

pub not_false : (b : Bool) → not b ≡ false → b ≡ true
not_false true e = refl
not_false false e = no_true e

pub not_true : (b : Bool) → not b ≡ true → b ≡ false
not_true true e = no_false e
not_true false e = refl

pub not_both : (b : Bool) → not b ≡ true → b ≡ true → ⊥
not_both true e f = no_false e
not_both false e f = no_false f

pub is_false : (b : Bool) → (b ≡ true → ⊥) → b ≡ false
is_false true h = absurd (h refl)
is_false false h = refl

pub if_some : {A : Type 0} (b : Bool) (w v : A) → (if b then some w else none) ≡ some v → b ≡ true
if_some true w v e = refl
if_some false w v e = no_none e

pub or_else_some : {A : Type 0} (a b : Option A) (v : A) → or_else a b ≡ some v → (a ≡ some v) ⊎ (b ≡ some v)
or_else_some none b v e = inr e
or_else_some (some a) b v e = inl e

-- ------------------------------------------------------------------ All
pub all_map : {A : Type 0} {P Q : A → Type 0} → ((a : A) → P a → Q a) → (l : List A) → All P l → All Q l
all_map f [] h = tt
all_map f (x ∷ xs) h = (f x h.0, all_map f xs h.1)

pub all_both : {A : Type 0} {P Q R : A → Type 0} → ((a : A) → P a → Q a → R a) → (l : List A) → All P l → All Q l → All R l
all_both f [] h j = tt
all_both f (x ∷ xs) h j = (f x h.0 j.0, all_both f xs h.1 j.1)

pub all_mem : {A : Type 0} (P : A → Type 0) {x : A} {l : List A} → All P l → x ∈ l → P x
all_mem P h (Memᴰ.head e) = rw e h.0
all_mem P h (Memᴰ.tail m) = all_mem P h.1 m

pub all_of : {A : Type 0} (P : A → Type 0) (l : List A) → ((r : A) → r ∈ l → P r) → All P l
all_of P [] h = tt
all_of P (x ∷ xs) h = (h x (Memᴰ.head refl), all_of P xs (λ r m. h r (Memᴰ.tail m)))
