-- Every number of a set one up: each word shifted by one, with the top bit of the word before. Assumes nothing.
use mathlib.Core.Path.{◌≡◌, refl, sym, ap, ap₂, ◌∙◌}
use mathlib.Core.Bool.{Bool, false, ◌&&◌, ◌||◌, or-false}
use mathlib.Core.List.{List, [], ◌∷◌}
use Prim.Native.Nat.{ℕ, zero, suc, ◌+◌, ◌*◌, ◌/◌, ◌%◌, ◌^◌, ◌<◌, ◌≤◌}
use native.Mathlib.Omega.{arith}
use lib.Bits.{bit_or}
use lib.ListN.{get_or}
use mir.Syntax.{w64}
use mir.Val.{Fits}
use borrow.Author.Tests.{lt-ltb, le-ltb}
use Rattle.bits.specs.Sets.{bit, set_of, up}
use Rattle.bits.proofs.Bits.{bit_mod, bit_even, bit_double, bit_or_law, bit_shr, bit_high}
use Rattle.bits.proofs.Words.{set_at, set_by, each_word}

-- ---- a word x that is shifted, with the top bit of y

shl_first : (x : ℕ) → bit (x * 2 % 2 ^ 64) 0 ≡ false
shl_first x = bit_mod (x * 2) 64 0 (omega arith) ∙ bit_even x

shl_later : (x t : ℕ) → suc t < 64 → bit (x * 2 % 2 ^ 64) (suc t) ≡ bit x t
shl_later x t h = bit_mod (x * 2) 64 (suc t) h ∙ bit_double x t

carry_first : (x y : ℕ) → bit (bit_or (x * 2 % 2 ^ 64) (y / 2 ^ 63)) 0 ≡ bit y 63
carry_first x y = bit_or_law (x * 2 % 2 ^ 64) (y / 2 ^ 63) 0 ∙ ap₂ ◌||◌ (shl_first x) (bit_shr y 63 0)

carry_later : (x y t : ℕ) → y < 2 ^ 64 → suc t < 64 → bit (bit_or (x * 2 % 2 ^ 64) (y / 2 ^ 63)) (suc t) ≡ bit x t
carry_later x y t f h =
    bit_or_law (x * 2 % 2 ^ 64) (y / 2 ^ 63) (suc t)
    ∙ ap₂ ◌||◌ (shl_later x t h) (bit_shr y 63 (suc t) ∙ bit_high y 64 (63 + suc t) f (omega arith)) ∙ or-false (bit x t)

-- ---- the set

up_suc : (S : ℕ → Bool) (n m : ℕ) → n ≡ suc m → n < 256 → up S n ≡ S m
up_suc S n m e h = ap (up S) e ∙ ap (λ (b : Bool). b && S m) (lt-ltb (suc m) 256 (omega arith))

up_out : (w : List ℕ) (j : ℕ) → 256 ≤ j → up (set_of w) j ≡ false
up_out w zero h = refl
up_out w (suc j) h = ap (λ (b : Bool). b && set_of w j) (le-ltb (suc j) 256 h)

module _ (w : List ℕ) (fits : (i : ℕ) → Fits w64 (get_or w i 0)) where
  lowest_word : (t : ℕ) → t < 64 → bit (get_or w 0 0 * 2 % 2 ^ 64) t ≡ up (set_of w) (0 * 64 + t)
  lowest_word zero l = shl_first (get_or w 0 0)
  lowest_word (suc t) l =
      shl_later (get_or w 0 0) t l ∙ sym (up_suc (set_of w) (0 * 64 + suc t) (0 * 64 + t) (omega arith) (omega arith) ∙ set_at w 0 t (omega arith) (omega arith))

  later_word : (i t : ℕ) → i < 3 → t < 64 → bit (bit_or (get_or w (suc i) 0 * 2 % 2 ^ 64) (get_or w i 0 / 2 ^ 63)) t ≡ up (set_of w) (suc i * 64 + t)
  later_word i zero h l =
      carry_first (get_or w (suc i) 0) (get_or w i 0)
      ∙ sym (up_suc (set_of w) (suc i * 64 + 0) (i * 64 + 63) (omega arith) (omega arith) ∙ set_at w i 63 (omega arith) (omega arith))
  later_word i (suc t) h l =
      carry_later (get_or w (suc i) 0) (get_or w i 0) t (fits i).fits l
      ∙ sym (up_suc (set_of w) (suc i * 64 + suc t) (suc i * 64 + t) (omega arith) (omega arith) ∙ set_at w (suc i) t (omega arith) (omega arith))

  abbrev shifted : List ℕ
  shifted =
      get_or w 0 0 * 2 % 2 ^ 64
      ∷ bit_or (get_or w 1 0 * 2 % 2 ^ 64) (get_or w 0 0 / 2 ^ 63)
      ∷ bit_or (get_or w 2 0 * 2 % 2 ^ 64) (get_or w 1 0 / 2 ^ 63)
      ∷ bit_or (get_or w 3 0 * 2 % 2 ^ 64) (get_or w 2 0 / 2 ^ 63)
      ∷ []

  pub up_words : set_of shifted ≡ up (set_of w)
  up_words =
      set_by shifted (up (set_of w))
      (λ i t h l.
      each_word (λ i. bit (get_or shifted i 0) t ≡ up (set_of w) (i * 64 + t))
      (lowest_word t l)
      (later_word 0 t (omega arith) l)
      (later_word 1 t (omega arith) l)
      (later_word 2 t (omega arith) l)
      i h)
      (up_out w)
