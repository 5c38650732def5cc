-- The least number of a mask: the count of a word's trailing zeros, and the search over four words. Assumes nothing.
use mathlib.Core.Path.{◌≡◌, refl, sym, ap, ◌∙◌}
use mathlib.Core.Bool.{Bool, false}
use mathlib.Core.List.{List}
use Prim.Native.Nat.{ℕ, zero, suc, ◌+◌, ◌-◌, ◌*◌, ◌/◌, ◌%◌, ◌^◌, ◌<◌, ◌≤◌}
use native.Mathlib.Nat.{mod-lt, zero-lt-suc, pow-suc}
use native.Mathlib.Omega.{arith}
use lib.Count.{count_trailing_zeros, under}
use lib.Dec.{eqb}
use lib.ListN.{get_or}
use lib.Pow.{shr_le}
use Rattle.std.specs.Prelude.{Option, None, Some}
use mir.Syntax.{w64}
use mir.Val.{Fits}
use borrow.Author.Tests.{eqb-false}
use Rattle.bits.specs.Sets.{bit, set_of, Least, LeastMember}
use Rattle.bits.proofs.Cases.{by_ltb}
use Rattle.bits.proofs.Bits.{bit_first, bit_suc, bit_shr, bit_below, bit_zero}
use Rattle.bits.proofs.Words.{set_at}

-- ---- one word

-- below the lowest digit d: by the rest's least number t
under_least : (n x d t : ℕ) → x % 2 ≡ d → Least (bit (x / 2)) n 0 t → Least (bit x) (suc n) 0 (under d t)
under_least n x zero t e m = record {
  within = omega (arith, m.within);
  after = omega arith;
  hit = λ h. bit_suc x t ∙ m.hit (omega arith);
  before = λ j f h. low j h;
}
  where
    low : (j : ℕ) → j < suc t → bit x j ≡ false
    low zero h = bit_first x ∙ ap (λ (b : ℕ). eqb b 1) e
    low (suc j) h = bit_suc x j ∙ m.before j (omega arith) (omega arith)
under_least n x (suc d) t e m = record {
  within = omega arith;
  after = omega arith;
  hit = λ h.
      let b : x % 2 < 2 = mod-lt x (zero-lt-suc 1) in
      let q : x % 2 ≡ 1 = omega arith in
      bit_first x ∙ ap (λ (b : ℕ). eqb b 1) q;
  before = λ j f h. absurd (omega arith);
}

pub trailing_least : (n x : ℕ) → Least (bit x) n 0 (count_trailing_zeros n x)
unfolding count_trailing_zeros
trailing_least zero x = record {
  within = omega arith;
  after = omega arith;
  hit = λ h. absurd (omega arith);
  before = λ j f h. absurd (omega arith);
}
trailing_least (suc n) x = under_least n x (x % 2) (count_trailing_zeros n (x / 2)) refl (trailing_least n (x / 2))

-- a word with no bit is 0
bits_none : (n x : ℕ) → x < 2 ^ n → ((j : ℕ) → j < n → bit x j ≡ false) → x ≡ 0
bits_none zero x h f = omega arith
bits_none (suc n) x h f =
    let d : x % 2 ≡ 1 → ⊥ = eqb-false (x % 2) 1 (sym (bit_first x) ∙ f 0 (omega arith)) in
    let p : x / 2 < 2 ^ n = omega (arith, pow-suc 2 n) in
    let q : x / 2 ≡ 0 = bits_none n (x / 2) p (λ j l. sym (bit_suc x j) ∙ f (suc j) (omega arith)) in
    omega arith

-- so a word that is not 0 has a least number
pub least_there : (n x r : ℕ) → x < 2 ^ n → (x ≡ 0 → ⊥) → Least (bit x) n 0 r → r < n
least_there n x r h z m = by_ltb r n (λ l. l) (λ l. absurd (z (bits_none n x h (λ j k. m.before j (omega arith) (omega arith)))))

-- ---- the search over four words

-- no number of S from `from` on is below k
pub record Seeking (S : ℕ → Bool) (from k : ℕ) : Type 0 where
  pub start : from ≤ k
  pub passed : (j : ℕ) → from ≤ j → j < k → S j ≡ false

pub seek_none : (S : ℕ → Bool) (from : ℕ) → Seeking S from from
seek_none S from = record { start = omega arith; passed = λ j f h. absurd (omega arith) }

pub seek_end : {S : ℕ → Bool} {from k : ℕ} → Seeking S from k → 256 ≤ k → Least S 256 from 256
seek_end s h = record {
  within = omega arith;
  after = omega arith;
  hit = λ l. absurd (omega arith);
  before = λ j f l. s.passed j f (omega arith);
}

-- the numbers from k on in its word are the bits of the word shifted down
from_word : (w : List ℕ) (k d : ℕ) → k < 256 → k % 64 + d < 64 → set_of w (k + d) ≡ bit (get_or w (k / 64) 0 / 2 ^ (k % 64)) d
from_word w k d h l =
    let e : k + d ≡ k / 64 * 64 + (k % 64 + d) = omega arith in
    ap (set_of w) e ∙ set_at w (k / 64) (k % 64 + d) (omega arith) l ∙ sym (bit_shr (get_or w (k / 64) 0) (k % 64) d)

module _ (w : List ℕ) {from k : ℕ} (s : Seeking (set_of w) from k) (x : ℕ) (h : k < 256) (e : x ≡ get_or w (k / 64) 0 / 2 ^ (k % 64)) where
  -- a word with nothing from k on is passed
  pub seek_more : x ≡ 0 → Seeking (set_of w) from (64 * (k / 64 + 1))
  seek_more z = record { start = omega (arith, s.start); passed = λ j f l. by_ltb j k (s.passed j f) (rest j l) }
    where
      rest : (j : ℕ) → j < 64 * (k / 64 + 1) → k ≤ j → set_of w j ≡ false
      rest j l p =
          let y : j ≡ k + (j - k) = omega arith in
          ap (set_of w) y ∙ from_word w k (j - k) h (omega arith) ∙ ap (λ (n : ℕ). bit n (j - k)) (sym e ∙ z) ∙ bit_zero (j - k)

  -- else its least bit is the answer
  pub seek_hit : (r : ℕ) → ((i : ℕ) → Fits w64 (get_or w i 0)) → (x ≡ 0 → ⊥) → Least (bit x) 64 0 r → LeastMember (set_of w) from (Some (k + r))
  seek_hit r f z m = (found, omega (arith, inside))
    where
      small : x < 2 ^ 64
      small = omega (arith, e, (f (k / 64)).fits, shr_le (get_or w (k / 64) 0) (k % 64))

      below : r < 64
      below = least_there 64 x r small z m

      inside : k % 64 + r < 64
      inside = bit_below (get_or w (k / 64) 0) 64 (k % 64 + r) (f (k / 64)).fits (sym (bit_shr (get_or w (k / 64) 0) (k % 64) r) ∙ ap (λ (n : ℕ). bit n r) (sym e) ∙ m.hit below)

      rest : (j : ℕ) → j < k + r → k ≤ j → set_of w j ≡ false
      rest j l p =
          let y : j ≡ k + (j - k) = omega arith in
          let v : k % 64 + r < 64 = inside in
          ap (set_of w) y ∙ from_word w k (j - k) h (omega arith) ∙ ap (λ (n : ℕ). bit n (j - k)) (sym e) ∙ m.before (j - k) (omega arith) (omega arith)

      found : Least (set_of w) 256 from (k + r)
      found = record {
        within = omega (arith, inside);
        after = omega (arith, s.start);
        hit = λ l. from_word w k r h inside ∙ ap (λ (n : ℕ). bit n r) (sym e) ∙ m.hit below;
        before = λ j g l. by_ltb j k (s.passed j g) (rest j l);
      }

-- what is sought past the numbers that are passed
pub seek_on : {S : ℕ → Bool} {from k : ℕ} (o : Option ℕ) → Seeking S from k → LeastMember S k o → LeastMember S from o
seek_on {S} {from} {k} o s = go o
  where
    least : (r : ℕ) → Least S 256 k r → Least S 256 from r
    least r m = record {
      within = m.within;
      after = omega (arith, s.start, m.after);
      hit = m.hit;
      before = λ j f l. by_ltb j k (s.passed j f) (λ h. m.before j h l);
    }

    go : (o : Option ℕ) → LeastMember S k o → LeastMember S from o
    go None m = least 256 m
    go (Some r) m = (least r m.0, m.1)

-- ---- word by word

module _ (w : List ℕ) {from i : ℕ} (s : Seeking (set_of w) from (64 * i)) (h : i < 4) where
  whole : get_or w i 0 ≡ get_or w (64 * i / 64) 0 / 2 ^ (64 * i % 64)
  whole =
      let d : 64 * i / 64 ≡ i = omega arith in
      let m : 64 * i % 64 ≡ 0 = omega arith in
      rw (d, m) (omega arith)

  pub word_more : get_or w i 0 ≡ 0 → Seeking (set_of w) from (64 * (i + 1))
  word_more z =
      let e : 64 * (64 * i / 64 + 1) ≡ 64 * (i + 1) = omega arith in
      rw e at (seek_more w s (get_or w i 0) (omega arith) whole z)

  pub word_hit : (r : ℕ) → ((i : ℕ) → Fits w64 (get_or w i 0)) → (get_or w i 0 ≡ 0 → ⊥) → Least (bit (get_or w i 0)) 64 0 r → LeastMember (set_of w) from (Some (64 * i + r))
  word_hit = seek_hit w s (get_or w i 0) (omega arith) whole
