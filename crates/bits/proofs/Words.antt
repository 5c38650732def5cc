-- Four words as a set: a law for each operation of the code, over plain lists of words. Assumes nothing.
use mathlib.Core.Path.{◌≡◌, refl, sym, ap, ◌∙◌, fun_ext}
use mathlib.Core.Bool.{Bool, false, not, ◌&&◌, ◌||◌}
use mathlib.Core.List.{List, [], ◌∷◌}
use Prim.Native.Nat.{ℕ, zero, suc, ◌+◌, ◌-◌, ◌*◌, ◌/◌, ◌%◌, ◌^◌, ◌<◌, ◌≤◌}
use native.Mathlib.Omega.{arith}
use lib.Bits.{bit_and, bit_or}
use mir.Syntax.{w64}
use mir.Val.{Fits}
use lib.ListN.{get_or}
use borrow.Author.Tests.{lt-ltb, le-ltb}
use Rattle.bits.specs.Sets.{ByWords, bit, member, set_of, none, unite, meet, minus}
use Rattle.bits.proofs.Cases.{by_ltb}
use Rattle.bits.proofs.Bits.{bit_or_law, bit_and_law, bit_not, bit_zero}

-- ---- a set's words, and its numbers past them

pub set_in : (w : List ℕ) (j : ℕ) → j < 256 → set_of w j ≡ member w j
unfolding set_of
set_in w j h = ap (λ (t : Bool). t && member w j) (lt-ltb j 256 h)

pub set_out : (w : List ℕ) (j : ℕ) → 256 ≤ j → set_of w j ≡ false
unfolding set_of
set_out w j h = ap (λ (t : Bool). t && member w j) (le-ltb j 256 h)

pub set_at : (w : List ℕ) (i t : ℕ) → i < 4 → t < 64 → set_of w (i * 64 + t) ≡ bit (get_or w i 0) t
unfolding member
set_at w i t h l =
    let d : (i * 64 + t) / 64 ≡ i = omega arith in
    let m : (i * 64 + t) % 64 ≡ t = omega arith in
    set_in w (i * 64 + t) (omega arith) ∙ rw (d, m)

-- words spell a set if each word's bits are the set's part, and the set has no number past them
pub set_by : (w : List ℕ) (S : ℕ → Bool) → ((i t : ℕ) → i < 4 → t < 64 → bit (get_or w i 0) t ≡ S (i * 64 + t))
    → ((j : ℕ) → 256 ≤ j → S j ≡ false) → set_of w ≡ S
set_by w S f g = fun_ext (λ j. by_ltb j 256 (inside j) (λ h. set_out w j h ∙ sym (g j h)))
  where
    inside : (j : ℕ) → j < 256 → set_of w j ≡ S j
    inside j h =
        let q : j / 64 * 64 + j % 64 ≡ j = omega arith in
        ap (set_of w) (sym q) ∙ set_at w (j / 64) (j % 64) (omega arith) (omega arith) ∙ f (j / 64) (j % 64) (omega arith) (omega arith) ∙ ap S q

-- ---- four words made alike

-- what holds of each of the four
pub each_word : (P : ℕ → Type 0) → P 0 → P 1 → P 2 → P 3 → (i : ℕ) → i < 4 → P i
each_word P a b c d zero h = a
each_word P a b c d (suc zero) h = b
each_word P a b c d (suc (suc zero)) h = c
each_word P a b c d (suc (suc (suc zero))) h = d
each_word P a b c d (suc (suc (suc (suc i)))) h = absurd (omega arith)

abbrev pub words : (ℕ → ℕ) → List ℕ
words x = x 0 ∷ x 1 ∷ x 2 ∷ x 3 ∷ []

pub word : (x : ℕ → ℕ) (i : ℕ) → i < 4 → get_or (words x) i 0 ≡ x i
word x i h = each_word (λ n. get_or (words x) n 0 ≡ x n) refl refl refl refl i h

-- words made by an operation on two words that is one on their bits: it is one on the sets
module _ (f : ℕ → ℕ → ℕ) (g : Bool → Bool → Bool) (z : g false false ≡ false) (a b r : List ℕ) (R : ℕ → ℕ → ℕ → Type 0) (o : (x y s : ℕ) → R x y s → s ≡ f x y) (w : ByWords R a b r) where
  both_by : ((i t : ℕ) → i < 4 → t < 64 → bit (f (get_or a i 0) (get_or b i 0)) t ≡ g (bit (get_or a i 0) t) (bit (get_or b i 0) t))
      → set_of r ≡ (λ j. g (set_of a j) (set_of b j))
  both_by e = set_by r (λ j. g (set_of a j) (set_of b j))
      (λ i t h l. rw (o (get_or a i 0) (get_or b i 0) (get_or r i 0) (w.at i h), set_at a i t h l, set_at b i t h l) (e i t h l))
      (λ j h. rw (set_out a j h, set_out b j h) z)

module _ {a b r : List ℕ} {R : ℕ → ℕ → ℕ → Type 0} (w : ByWords R a b r) where
  pub union_words : ((x y s : ℕ) → R x y s → s ≡ bit_or x y) → set_of r ≡ unite (set_of a) (set_of b)
  union_words o = both_by bit_or ◌||◌ refl a b r R o w (λ i t h l. bit_or_law (get_or a i 0) (get_or b i 0) t)

  pub meet_words : ((x y s : ℕ) → R x y s → s ≡ bit_and x y) → set_of r ≡ meet (set_of a) (set_of b)
  meet_words o = both_by bit_and ◌&&◌ refl a b r R o w (λ i t h l. bit_and_law (get_or a i 0) (get_or b i 0) t)

  pub minus_words : ((i : ℕ) → Fits w64 (get_or b i 0)) → ((x y s : ℕ) → R x y s → s ≡ bit_and x (2 ^ 64 - 1 - y)) → set_of r ≡ minus (set_of a) (set_of b)
  minus_words f o =
      both_by (λ x y. bit_and x (2 ^ 64 - 1 - y)) (λ s t. s && not t) refl a b r R o w
      (λ i t h l.
      bit_and_law (get_or a i 0) (2 ^ 64 - 1 - get_or b i 0) t
      ∙ ap (λ (s : Bool). bit (get_or a i 0) t && s) (bit_not 64 t (get_or b i 0) l (f i).fits))

pub empty_words : set_of (words (λ i. 0)) ≡ none
empty_words = set_by (words (λ i. 0)) none (λ i t h l. rw (word (λ i. 0) i h) (bit_zero t)) (λ j h. refl)
