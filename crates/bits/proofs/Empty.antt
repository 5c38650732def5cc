-- Whether a set is empty, and whether two sets are the same. Assumes nothing.
use mathlib.Core.Path.{◌≡◌, refl, sym, ap, ◌∙◌}
use mathlib.Core.Bool.{Bool, true, false, ◌||◌}
use mathlib.Core.List.{List}
use Prim.Native.Nat.{ℕ, ◌+◌, ◌*◌, ◌^◌, ◌<◌}
use native.Mathlib.Omega.{arith}
use lib.Bits.{bit_or, or_add_and, and_le_l, and_le_r, or_lt}
use lib.Count.{count_trailing_zeros}
use lib.Dec.{eqb}
use lib.ListN.{get_or}
use mir.Syntax.{w64}
use mir.Val.{Fits}
use borrow.Author.Tests.{eqb-true, eqb-false}
use Rattle.bits.specs.Sets.{bit, set_of, none, Empty, Least}
use Rattle.bits.proofs.Bits.{bit_or_law, bit_zero}
use Rattle.bits.proofs.Words.{set_at, set_by, each_word}
use Rattle.bits.proofs.Search.{trailing_least, least_there}

-- ---- a union of words that is 0

or_left : (a b : ℕ) → bit_or a b ≡ 0 → a ≡ 0
or_left a b e = omega (arith, or_add_and a b, and_le_r a b)

or_right : (a b : ℕ) → bit_or a b ≡ 0 → b ≡ 0
or_right a b e = omega (arith, or_add_and a b, and_le_l a b)

module _ (w : List ℕ) (fits : (i : ℕ) → Fits w64 (get_or w i 0)) where
  abbrev two : ℕ
  two = bit_or (get_or w 0 0) (get_or w 1 0)

  abbrev three : ℕ
  three = bit_or two (get_or w 2 0)

  abbrev all : ℕ
  all = bit_or three (get_or w 3 0)

  zeros : all ≡ 0 → set_of w ≡ none
  zeros e =
      let c : three ≡ 0 = or_left three (get_or w 3 0) e in
      let b : two ≡ 0 = or_left two (get_or w 2 0) c in
      set_by w none
      (λ i t h l.
      each_word (λ i. bit (get_or w i 0) t ≡ false)
      (ap (λ (x : ℕ). bit x t) (or_left (get_or w 0 0) (get_or w 1 0) b) ∙ bit_zero t)
      (ap (λ (x : ℕ). bit x t) (or_right (get_or w 0 0) (get_or w 1 0) b) ∙ bit_zero t)
      (ap (λ (x : ℕ). bit x t) (or_right two (get_or w 2 0) c) ∙ bit_zero t)
      (ap (λ (x : ℕ). bit x t) (or_right three (get_or w 3 0) e) ∙ bit_zero t)
      i h)
      (λ j h. refl)

  found : (i t : ℕ) → i < 4 → t < 64 → bit (get_or w i 0) t ≡ true → (j : ℕ) × (set_of w j ≡ true)
  found i t h l e = (i * 64 + t, set_at w i t h l ∙ e)

  some_word : (t : ℕ) → t < 64 → bit all t ≡ true → (j : ℕ) × (set_of w j ≡ true)
  some_word t l e =
      go (bit (get_or w 0 0) t) (bit (get_or w 1 0) t) (bit (get_or w 2 0) t) (bit (get_or w 3 0) t) refl refl refl refl
      (sym (bit_or_law three (get_or w 3 0) t ∙ ap (λ (b : Bool). b || bit (get_or w 3 0) t) (bit_or_law two (get_or w 2 0) t ∙ ap (λ (b : Bool). b || bit (get_or w 2 0) t) (bit_or_law (get_or w 0 0) (get_or w 1 0) t))) ∙ e)
    where
      go : (p q r s : Bool) → bit (get_or w 0 0) t ≡ p → bit (get_or w 1 0) t ≡ q → bit (get_or w 2 0) t ≡ r → bit (get_or w 3 0) t ≡ s
          → (((p || q) || r) || s) ≡ true → (j : ℕ) × (set_of w j ≡ true)
      go true q r s a b c d z = found 0 t (omega arith) l a
      go false true r s a b c d z = found 1 t (omega arith) l b
      go false false true s a b c d z = found 2 t (omega arith) l c
      go false false false s a b c d z = found 3 t (omega arith) l (d ∙ z)

  some_bit : (all ≡ 0 → ⊥) → (j : ℕ) × (set_of w j ≡ true)
  some_bit n =
      let f : all < 2 ^ 64 = or_lt 64 three (get_or w 3 0) (or_lt 64 two (get_or w 2 0) (or_lt 64 (get_or w 0 0) (get_or w 1 0) (fits 0).fits (fits 1).fits) (fits 2).fits) (fits 3).fits in
      let m : Least (bit all) 64 0 (count_trailing_zeros 64 all) = trailing_least 64 all in
      let l : count_trailing_zeros 64 all < 64 = least_there 64 all (count_trailing_zeros 64 all) f n m in
      some_word (count_trailing_zeros 64 all) l (m.hit l)

  pub empty_by : Empty (set_of w) (eqb all 0)
  empty_by = record { yes = λ e. zeros (eqb-true all 0 e); no = λ e. some_bit (eqb-false all 0 e) }

-- ---- two sets that differ in nothing
