-- What a caller cites of sets: whether a number is in after each operation. S is any set, so that a law serves masks of one
-- word and of four alike. Assumes nothing.
use mathlib.Core.Path.{◌≡◌, refl, sym, ap, ◌∙◌}
use mathlib.Core.Bool.{Bool, true, false, not, ◌&&◌, ◌||◌, true≢false, and-true, and-false, or-true}
use mathlib.Core.List.{List}
use Prim.Native.Nat.{ℕ, ◌<◌, ◌≤◌}
use native.Mathlib.Omega.{arith}
use lib.Dec.{eqb, ltb}
use borrow.Author.Tests.{lt-ltb, le-ltb, eq-eqb, ne_eqb}
use Rattle.bits.specs.Sets.{set_of, only, below, insert, remove}
use Rattle.bits.proofs.Cases.{by_ltb}
use Rattle.bits.proofs.Words.{set_out}

-- ---- equal sets

-- An operation's contract at one number. `unite`, `meet` and `minus` then compute: of e : R ≡ unite S T,
-- `at e j` is R j ≡ (S j || T j).
pub at : {R S : ℕ → Bool} → R ≡ S → (j : ℕ) → R j ≡ S j
at e j = ap (λ (S : ℕ → Bool). S j) e

-- ---- what a mask can hold

pub set_below : (w : List ℕ) (j : ℕ) → set_of w j ≡ true → j < 256
set_below w j e = by_ltb j 256 (λ h. h) (λ h. absurd (true≢false (sym e ∙ set_out w j h)))

-- ---- one number

pub only_in : (end k j : ℕ) → k < end → only end k j ≡ eqb j k
only_in end k j h = ap (λ (b : Bool). b && eqb j k) (lt-ltb k end h)

pub only_out : (end k j : ℕ) → end ≤ k → only end k j ≡ false
only_out end k j h = ap (λ (b : Bool). b && eqb j k) (le-ltb k end h)

module _ (S : ℕ → Bool) (k : ℕ) where
  pub insert_in : (j : ℕ) → k < 256 → insert S k j ≡ (eqb j k || S j)
  insert_in j h = ap (λ (b : Bool). b || S j) (only_in 256 k j h)

  pub insert_self : k < 256 → insert S k k ≡ true
  insert_self h = insert_in k h ∙ ap (λ (b : Bool). b || S k) (eq-eqb k k refl)

  pub insert_kept : (j : ℕ) → S j ≡ true → insert S k j ≡ true
  insert_kept j e = ap (λ (b : Bool). only 256 k j || b) e ∙ or-true (only 256 k j)

  pub remove_self : remove S k k ≡ false
  remove_self = ap (λ (b : Bool). S k && not b) (eq-eqb k k refl) ∙ and-false (S k)

  pub remove_other : (j : ℕ) → (j ≡ k → ⊥) → remove S k j ≡ S j
  remove_other j n = ap (λ (b : Bool). S j && not b) (ne_eqb j k n) ∙ and-true (S j)

pub below_in : (end n j : ℕ) → j < n → n ≤ end → below end n j ≡ true
below_in end n j h l = ap (λ (b : Bool). b && ltb j n) (lt-ltb j end (omega arith)) ∙ lt-ltb j n h
