-- The sets that are made of a number, and what one number changes. Assumes nothing.
use mathlib.Core.Path.{◌≡◌, sym, ap, ap₂, ◌∙◌, fun_ext}
use mathlib.Core.Bool.{Bool, false, not, ◌&&◌, ◌||◌, or_comm, and-false}
use mathlib.Core.List.{List, [], ◌∷◌}
use Prim.Native.Nat.{ℕ, ◌+◌, ◌-◌, ◌*◌, ◌/◌, ◌%◌, ◌<◌, ◌≤◌}
use native.Mathlib.Omega.{arith}
use lib.Dec.{eqb, ltb}
use lib.ListN.{get_or}
use borrow.Author.Tests.{lt-ltb, le-ltb, ne_eqb}
use Rattle.bits.specs.Sets.{bit, set_of, Part, only, below, insert, remove, unite, minus}
use Rattle.bits.proofs.Cases.{by_ltb, same_ltb, same_eqb}
use Rattle.bits.proofs.Bits.{bit_zero}
use Rattle.bits.proofs.Words.{set_by, set_out, each_word}

-- ---- one number

-- the word i of the set of k, where x is the mask of k % 64
pub part_here : (k i x : ℕ) → i < 4 → bit x ≡ only 64 (k % 64) → k / 64 ≡ i → Part (only 256 k) i x
part_here k i x h e z = record {
  bits = λ t l.
      ap (λ (S : ℕ → Bool). S t) e ∙ ap₂ ◌&&◌ (lt-ltb (k % 64) 64 (omega arith) ∙ sym (lt-ltb k 256 (omega arith)))
      (same_eqb t (k % 64) (i * 64 + t) k (λ p. omega arith) (λ p. omega arith));
}

pub part_away : (k i : ℕ) → (k / 64 ≡ i → ⊥) → Part (only 256 k) i 0
part_away k i z = record {
  bits = λ t l. bit_zero t ∙ sym (ap (λ (b : Bool). ltb k 256 && b) (ne_eqb (i * 64 + t) k (λ p. z (omega arith))) ∙ and-false (ltb k 256));
}

only_out : (k j : ℕ) → 256 ≤ j → only 256 k j ≡ false
only_out k j h =
    by_ltb k 256
    (λ l. ap (λ (b : Bool). ltb k 256 && b) (ne_eqb j k (λ p. absurd (omega arith))) ∙ and-false (ltb k 256))
    (λ l. ap (λ (b : Bool). b && eqb j k) (le-ltb k 256 l))

pub single_words : (k a b c d : ℕ) → Part (only 256 k) 0 a → Part (only 256 k) 1 b → Part (only 256 k) 2 c → Part (only 256 k) 3 d → set_of (a ∷ b ∷ c ∷ d ∷ []) ≡ only 256 k
single_words k a b c d p q r s =
    set_by (a ∷ b ∷ c ∷ d ∷ []) (only 256 k)
    (λ i t h l. (each_word (λ i. Part (only 256 k) i (get_or (a ∷ b ∷ c ∷ d ∷ []) i 0)) p q r s i h).bits t l)
    (only_out k)

pub with_words : (r s w : List ℕ) (k : ℕ) → set_of s ≡ only 256 k → set_of r ≡ unite (set_of w) (set_of s) → set_of r ≡ insert (set_of w) k
with_words r s w k e q = q ∙ fun_ext (λ j. or_comm (set_of w j) (set_of s j) ∙ ap (λ (S : ℕ → Bool). S j || set_of w j) e)

pub without_words : (r s w : List ℕ) (k : ℕ) → set_of s ≡ only 256 k → set_of r ≡ minus (set_of w) (set_of s) → set_of r ≡ remove (set_of w) k
without_words r s w k e q = q ∙ fun_ext (λ j. ap (λ (S : ℕ → Bool). set_of w j && not (S j)) e ∙ gone j)
  where
    -- a k past the words is in no set of them
    gone : (j : ℕ) → (set_of w j && not (only 256 k j)) ≡ (set_of w j && not (eqb j k))
    gone j =
        by_ltb k 256
        (λ l. ap (λ (b : Bool). set_of w j && not (b && eqb j k)) (lt-ltb k 256 l))
        (λ l.
        by_ltb j 256
        (λ h. ap (λ (b : Bool). set_of w j && not b) (ap (λ (b : Bool). b && eqb j k) (le-ltb k 256 l) ∙ sym (ne_eqb j k (λ p. absurd (omega arith)))))
        (λ h. ap (λ (b : Bool). b && not (only 256 k j)) (set_out w j h) ∙ sym (ap (λ (b : Bool). b && not (eqb j k)) (set_out w j h))))

-- ---- the numbers below n

below_bit : (n i t p : ℕ) → i < 4 → t < 64 → p ≡ n - i * 64 → below 64 p t ≡ below 256 n (i * 64 + t)
below_bit n i t p h l e =
    ap₂ ◌&&◌ (lt-ltb t 64 l ∙ sym (lt-ltb (i * 64 + t) 256 (omega arith))) (same_ltb t p (i * 64 + t) n (λ q. omega arith) (λ q. omega arith))

pub below_words : (n p q r a b c d : ℕ) → p ≡ n - 64 → q ≡ n - 128 → r ≡ n - 192
    → bit a ≡ below 64 n → bit b ≡ below 64 p → bit c ≡ below 64 q → bit d ≡ below 64 r
    → set_of (a ∷ b ∷ c ∷ d ∷ []) ≡ below 256 n
below_words n p q r a b c d e f g ka kb kc kd =
    set_by (a ∷ b ∷ c ∷ d ∷ []) (below 256 n)
    (λ i t h l.
    each_word (λ i. bit (get_or (a ∷ b ∷ c ∷ d ∷ []) i 0) t ≡ below 256 n (i * 64 + t))
    (ap (λ (S : ℕ → Bool). S t) ka ∙ below_bit n 0 t n (omega arith) l (omega arith))
    (ap (λ (S : ℕ → Bool). S t) kb ∙ below_bit n 1 t p (omega arith) l (omega arith))
    (ap (λ (S : ℕ → Bool). S t) kc ∙ below_bit n 2 t q (omega arith) l (omega arith))
    (ap (λ (S : ℕ → Bool). S t) kd ∙ below_bit n 3 t r (omega arith) l (omega arith))
    i h)
    (λ j h. ap (λ (b : Bool). b && ltb j n) (le-ltb j 256 h))
