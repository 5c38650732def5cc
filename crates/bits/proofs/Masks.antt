-- What each way through a function on one word gives, and through `has`. Assumes nothing.
use mathlib.Core.Path.{◌≡◌, sym, ap, ◌∙◌, fun_ext}
use mathlib.Core.Bool.{Bool, false, not, ◌&&◌, and-true}
use mathlib.Core.List.{List}
use Prim.Native.Nat.{ℕ, ◌-◌, ◌*◌, ◌/◌, ◌%◌, ◌^◌, ◌<◌, ◌≤◌}
use native.Mathlib.Omega.{arith}
use lib.Bits.{bit_and, bit_or}
use lib.Dec.{eqb, ltb}
use lib.ListN.{get_or}
use lib.Pow.{pow_pos}
use mir.Syntax.{w64}
use mir.Val.{Fits}
use borrow.Author.Tests.{lt-ltb, le-ltb, ne_eqb}
use Rattle.bits.specs.Sets.{bit, member, set_of, only, below, remove, unite}
use Rattle.bits.proofs.Cases.{by_ltb}
use Rattle.bits.proofs.Bits.{bit_zero, bit_high, bit_pow, bit_ones, bit_or_law, bit_and_law, bit_not, bit_code, one_shl}
use Rattle.bits.proofs.Words.{set_in, set_out}

pub has_far : (w : List ℕ) (k : ℕ) → 256 ≤ k → false ≡ set_of w k
has_far w k h = sym (set_out w k h)

pub has_near : (w : List ℕ) (k : ℕ) → k < 256 → eqb (bit_and (get_or w (k / 64) 0 / 2 ^ (k % 64)) 1) 1 ≡ set_of w k
unfolding member
has_near w k h = bit_code (get_or w (k / 64) 0) (k % 64) ∙ sym (set_in w k h)

pub bit_far : (m k : ℕ) → Fits w64 m → 64 ≤ k → false ≡ bit m k
bit_far m k f h = sym (bit_high m 64 k f.fits h)

pub one_far : (k : ℕ) → 64 ≤ k → bit 0 ≡ only 64 k
one_far k h = fun_ext (λ j. bit_zero j ∙ sym (ap (λ (b : Bool). b && eqb j k) (le-ltb k 64 h)))

pub one_near : (k : ℕ) → k < 64 → bit (1 * 2 ^ k % 2 ^ 64) ≡ only 64 k
one_near k h = fun_ext (λ j. ap (λ (x : ℕ). bit x j) (one_shl k h) ∙ bit_pow k j ∙ sym (ap (λ (b : Bool). b && eqb j k) (lt-ltb k 64 h)))

pub one_there : (n : ℕ) → n < 64 → 1 ≤ 1 * 2 ^ n % 2 ^ 64
one_there n h = rw (one_shl n h) (pow_pos n)

pub low_far : (n : ℕ) → 64 ≤ n → bit (2 ^ 64 - 1) ≡ below 64 n
low_far n h = fun_ext (λ j. bit_ones 64 j ∙ sym (by_ltb j 64 (λ l. ap (λ (b : Bool). ltb j 64 && b) (lt-ltb j n (omega arith)) ∙ and-true (ltb j 64)) (λ l. rw (le-ltb j 64 l))))

pub low_near : (n : ℕ) → n < 64 → bit (1 * 2 ^ n % 2 ^ 64 - 1) ≡ below 64 n
low_near n h = fun_ext (λ j. ap (λ (x : ℕ). bit (x - 1) j) (one_shl n h) ∙ bit_ones n j ∙ sym (by_ltb j 64 (λ l. rw (lt-ltb j 64 l)) (λ l. rw (le-ltb j 64 l) (sym (le-ltb j n (omega arith))))))

pub or_mask : (a b : ℕ) → bit (bit_or a b) ≡ unite (bit a) (bit b)
or_mask a b = fun_ext (bit_or_law a b)

-- x is the mask of k
pub clear_mask : (m x k : ℕ) → Fits w64 m → Fits w64 x → bit x ≡ only 64 k → bit (bit_and m (2 ^ 64 - 1 - x)) ≡ remove (bit m) k
clear_mask m x k f g e = fun_ext (λ j. bit_and_law m (2 ^ 64 - 1 - x) j ∙ go j)
  where
    near : (j : ℕ) → j < 64 → only 64 k j ≡ eqb j k
    near j l = by_ltb k 64 (λ h. rw (lt-ltb k 64 h)) (λ h. rw (le-ltb k 64 h) (sym (ne_eqb j k (λ p. absurd (omega arith)))))

    go : (j : ℕ) → (bit m j && bit (2 ^ 64 - 1 - x) j) ≡ remove (bit m) k j
    go j =
        by_ltb j 64
        (λ l. ap (λ (b : Bool). bit m j && b) (bit_not 64 j x l g.fits ∙ ap not (ap (λ (S : ℕ → Bool). S j) e ∙ near j l)))
        (λ l. rw (bit_high m 64 j f.fits l))
