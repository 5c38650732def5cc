-- The bits of one word: of a shift, of each bitwise operation, and of what the code writes. Assumes nothing.
use mathlib.Core.Path.{◌≡◌, refl, sym, ap, ◌∙◌}
use mathlib.Core.Bool.{Bool, true, false, not, ◌&&◌, ◌||◌, true≢false}
use Prim.Native.Nat.{ℕ, zero, suc, ◌+◌, ◌-◌, ◌*◌, ◌/◌, ◌%◌, ◌^◌, ◌<◌, ◌≤◌, min, max}
use native.Mathlib.Nat.{pow-suc, div-eq_of_lt, mul-mod_left, mul-div_cancel, div-one, mod-lt, zero-lt-suc, zero-div, one-mul, lt_of_lt_of_le}
use native.Mathlib.Numerals.{one-add}
use native.Mathlib.Omega.{arith}
use lib.Arith.{digits_mod}
use lib.Bits.{bit_and, bit_or, and_step, or_step, and_shr, or_shr, and_mask}
use lib.Pow.{pow_pos, pow_mono, shr-shr, shl_exact, field, mod-mod-pow}
use lib.Dec.{eqb, ltb, leb-suc-suc, eqb-suc-suc, eqb-suc-zero, eqb-zero-suc}
use borrow.Author.Tests.{lt-ltb, le-ltb}
use Rattle.bits.specs.Sets.{bit}
use Rattle.bits.proofs.Cases.{by_ltb}

-- ---- a bit of a shift

pub bit_first : (x : ℕ) → bit x 0 ≡ eqb (x % 2) 1
unfolding bit
bit_first x = ap (λ (n : ℕ). eqb (n % 2) 1) (div-one x)

pub bit_shr : (x s k : ℕ) → bit (x / 2 ^ s) k ≡ bit x (s + k)
unfolding bit
bit_shr x s k = ap (λ (n : ℕ). eqb (n % 2) 1) (shr-shr x s k)

pub bit_suc : (x k : ℕ) → bit x (suc k) ≡ bit (x / 2) k
bit_suc x k = ap (bit x) (sym (one-add k)) ∙ sym (bit_shr x 1 k)

pub bit_zero : (k : ℕ) → bit 0 k ≡ false
unfolding bit
bit_zero k = ap (λ (n : ℕ). eqb (n % 2) 1) (zero-div (2 ^ k))

-- a word of n bits has none from n on
pub bit_high : (x n k : ℕ) → x < 2 ^ n → n ≤ k → bit x k ≡ false
unfolding bit
bit_high x n k h l = ap (λ (n : ℕ). eqb (n % 2) 1) (div-eq_of_lt (lt_of_lt_of_le h (pow_mono l)))

pub bit_below : (x n k : ℕ) → x < 2 ^ n → bit x k ≡ true → k < n
bit_below x n k h e = by_ltb k n (λ l. l) (λ l. absurd (true≢false (sym e ∙ bit_high x n k h l)))

-- what is cut off above n is not seen below n
pub bit_mod : (x n k : ℕ) → k < n → bit (x % 2 ^ n) k ≡ bit x k
unfolding bit
bit_mod x n k h =
    let e : n ≡ ((n - k - 1) + 1) + k = omega arith in
    ap (λ (m : ℕ). eqb (x % 2 ^ m / 2 ^ k % 2) 1) e
    ∙ ap (λ (m : ℕ). eqb (m % 2) 1) (field x ((n - k - 1) + 1) k)
    ∙ ap (λ (m : ℕ). eqb m 1) (mod-mod-pow (x / 2 ^ k) (n - k - 1) 1)

pub bit_double : (x k : ℕ) → bit (x * 2) (suc k) ≡ bit x k
bit_double x k = bit_suc (x * 2) k ∙ ap (λ (n : ℕ). bit n k) (mul-div_cancel x (zero-lt-suc 1))

pub bit_even : (x : ℕ) → bit (x * 2) 0 ≡ false
bit_even x = bit_first (x * 2) ∙ ap (λ (n : ℕ). eqb n 1) (mul-mod_left x 2)

-- ---- a bit of a bitwise operation

-- an operation on digits is the operation on tests
module _ (f : ℕ → ℕ → ℕ) (g : Bool → Bool → Bool) where
  on_digits : f 0 0 < 2 → f 0 1 < 2 → f 1 0 < 2 → f 1 1 < 2
      → eqb (f 0 0) 1 ≡ g false false → eqb (f 0 1) 1 ≡ g false true → eqb (f 1 0) 1 ≡ g true false → eqb (f 1 1) 1 ≡ g true true
      → (q x y : ℕ) → x < 2 → y < 2 → eqb ((q * 2 + f x y) % 2) 1 ≡ g (eqb x 1) (eqb y 1)
  on_digits a b c d a' b' c' d' q zero zero p r = rw (digits_mod q {m = 2} {r = f 0 0} a) a'
  on_digits a b c d a' b' c' d' q zero (suc zero) p r = rw (digits_mod q {m = 2} {r = f 0 1} b) b'
  on_digits a b c d a' b' c' d' q (suc zero) zero p r = rw (digits_mod q {m = 2} {r = f 1 0} c) c'
  on_digits a b c d a' b' c' d' q (suc zero) (suc zero) p r = rw (digits_mod q {m = 2} {r = f 1 1} d) d'
  on_digits a b c d a' b' c' d' q zero (suc (suc y)) p r = absurd (omega arith)
  on_digits a b c d a' b' c' d' q (suc zero) (suc (suc y)) p r = absurd (omega arith)
  on_digits a b c d a' b' c' d' q (suc (suc x)) y p r = absurd (omega arith)

digit : (x : ℕ) → x % 2 < 2
digit x = mod-lt x (zero-lt-suc 1)

pub bit_or_law : (a b k : ℕ) → bit (bit_or a b) k ≡ (bit a k || bit b k)
unfolding bit
bit_or_law a b k =
    rw (or_shr a b k, or_step (a / 2 ^ k) (b / 2 ^ k))
    (on_digits max ◌||◌ (omega arith) (omega arith) (omega arith) (omega arith) refl refl refl refl
    (bit_or (a / 2 ^ k / 2) (b / 2 ^ k / 2)) (a / 2 ^ k % 2) (b / 2 ^ k % 2) (digit (a / 2 ^ k)) (digit (b / 2 ^ k)))

pub bit_and_law : (a b k : ℕ) → bit (bit_and a b) k ≡ (bit a k && bit b k)
unfolding bit
bit_and_law a b k =
    rw (and_shr a b k, and_step (a / 2 ^ k) (b / 2 ^ k))
    (on_digits min ◌&&◌ (omega arith) (omega arith) (omega arith) (omega arith) refl refl refl refl
    (bit_and (a / 2 ^ k / 2) (b / 2 ^ k / 2)) (a / 2 ^ k % 2) (b / 2 ^ k % 2) (digit (a / 2 ^ k)) (digit (b / 2 ^ k)))

not_digit : (d : ℕ) → d < 2 → eqb (1 - d) 1 ≡ not (eqb d 1)
not_digit zero h = refl
not_digit (suc zero) h = refl
not_digit (suc (suc d)) h = absurd (omega arith)

-- `!b` of a word of n bits
pub bit_not : (n k b : ℕ) → k < n → b < 2 ^ n → bit (2 ^ n - 1 - b) k ≡ not (bit b k)
bit_not zero k b h l = absurd (omega arith)
bit_not (suc n) zero b h l =
    let p : 2 ^ suc n ≡ 2 ^ n * 2 = pow-suc 2 n in
    let e : (2 ^ suc n - 1 - b) % 2 ≡ 1 - b % 2 = omega arith in
    bit_first (2 ^ suc n - 1 - b) ∙ ap (λ (d : ℕ). eqb d 1) e ∙ not_digit (b % 2) (digit b) ∙ sym (ap not (bit_first b))
bit_not (suc n) (suc k) b h l =
    let p : 2 ^ suc n ≡ 2 ^ n * 2 = pow-suc 2 n in
    let e : (2 ^ suc n - 1 - b) / 2 ≡ 2 ^ n - 1 - b / 2 = omega arith in
    bit_suc (2 ^ suc n - 1 - b) k ∙ ap (λ (x : ℕ). bit x k) e ∙ bit_not n k (b / 2) (omega arith) (omega arith) ∙ sym (ap not (bit_suc b k))

-- ---- words that the code makes

pub bit_pow : (s k : ℕ) → bit (2 ^ s) k ≡ eqb k s
bit_pow zero zero = bit_first 1
bit_pow zero (suc k) = bit_suc 1 k ∙ bit_zero k ∙ sym (eqb-suc-zero k)
bit_pow (suc s) zero = ap (λ (n : ℕ). bit n 0) (pow-suc 2 s) ∙ bit_even (2 ^ s) ∙ sym (eqb-zero-suc s)
bit_pow (suc s) (suc k) = ap (λ (n : ℕ). bit n (suc k)) (pow-suc 2 s) ∙ bit_double (2 ^ s) k ∙ bit_pow s k ∙ sym (eqb-suc-suc k s)

-- the word of n ones
pub bit_ones : (n k : ℕ) → bit (2 ^ n - 1) k ≡ ltb k n
bit_ones zero k = bit_zero k ∙ sym (le-ltb k 0 (omega arith))
bit_ones (suc n) zero =
    let p : 2 ^ suc n ≡ 2 ^ n * 2 = pow-suc 2 n in
    let q : 0 < 2 ^ n = pow_pos n in
    let e : (2 ^ suc n - 1) % 2 ≡ 1 = omega arith in
    bit_first (2 ^ suc n - 1) ∙ ap (λ (d : ℕ). eqb d 1) e ∙ sym (lt-ltb 0 (suc n) (omega arith))
bit_ones (suc n) (suc k) =
    let p : 2 ^ suc n ≡ 2 ^ n * 2 = pow-suc 2 n in
    let e : (2 ^ suc n - 1) / 2 ≡ 2 ^ n - 1 = omega arith in
    bit_suc (2 ^ suc n - 1) k ∙ ap (λ (x : ℕ). bit x k) e ∙ bit_ones n k ∙ sym (leb-suc-suc (suc k) n)

pub bit_code : (x s : ℕ) → eqb (bit_and (x / 2 ^ s) 1) 1 ≡ bit x s
unfolding bit
bit_code x s = ap (λ (n : ℕ). eqb n 1) (and_mask (x / 2 ^ s) 1)

pub one_shl : (s : ℕ) → s < 64 → 1 * 2 ^ s % 2 ^ 64 ≡ 2 ^ s
one_shl s h = shl_exact 1 s 64 (omega arith) (omega arith) ∙ one-mul (2 ^ s)
