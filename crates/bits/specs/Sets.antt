-- What a mask means, as a set of numbers, and what the operations on masks give. Assumes nothing: these are definitions.
-- A set is a test, ℕ → Bool. Laws are in proofs/.
use Rattle.std.specs.Prelude.{◌≡◌, Option, None, Some, Bool, true, false, not, ◌&&◌, ◌||◌, List, ℕ, zero, suc, ◌+◌, ◌*◌, ◌/◌, ◌%◌, ◌^◌, ◌<◌, ◌≤◌, min, eqb, ltb, get_or}

-- ---- masks

-- the bit k of a word: the mask of one word is the set `bit x`
unfoldable pub bit : ℕ → ℕ → Bool
bit x k = eqb (x / 2 ^ k % 2) 1

-- the bit of the number k among the words w
unfoldable pub member : List ℕ → ℕ → Bool
member w k = bit (get_or w (k / 64) 0) (k % 64)

-- the set that four words spell
unfoldable pub set_of : List ℕ → ℕ → Bool
set_of w j = ltb j 256 && member w j

-- ---- sets

abbrev pub none : ℕ → Bool
none j = false

-- k alone, if it is below end
abbrev pub only : ℕ → ℕ → ℕ → Bool
only end k j = ltb k end && eqb j k

-- the numbers below n and below end
abbrev pub below : ℕ → ℕ → ℕ → Bool
below end n j = ltb j end && ltb j n

-- S with k, if a set of four words can hold k
abbrev pub insert : (ℕ → Bool) → ℕ → ℕ → Bool
insert S k j = only 256 k j || S j

abbrev pub remove : (ℕ → Bool) → ℕ → ℕ → Bool
remove S k j = S j && not (eqb j k)

abbrev pub unite : (ℕ → Bool) → (ℕ → Bool) → ℕ → Bool
unite S T j = S j || T j

abbrev pub meet : (ℕ → Bool) → (ℕ → Bool) → ℕ → Bool
meet S T j = S j && T j

abbrev pub minus : (ℕ → Bool) → (ℕ → Bool) → ℕ → Bool
minus S T j = S j && not (T j)

-- k + 1 for each k of S, below 256
abbrev pub up : (ℕ → Bool) → ℕ → Bool
up S zero = false
up S (suc j) = ltb (suc j) 256 && S j

-- ---- answers

-- r is the least number of S from `from` on, or end if there is none below it
pub record Least (S : ℕ → Bool) (end from r : ℕ) : Type 0 where
  pub within : r ≤ end
  pub after : min from end ≤ r
  pub hit : r < end → S r ≡ true
  pub before : (j : ℕ) → from ≤ j → j < r → S j ≡ false

-- the least number of S from `from` on is given, below 256; or there is none
abbrev pub LeastMember : (ℕ → Bool) → ℕ → Option ℕ → Type 0
LeastMember S from None = Least S 256 from 256
LeastMember S from (Some k) = Least S 256 from k × (k < 256)

-- r tells whether S is empty
pub record Empty (S : ℕ → Bool) (r : Bool) : Type 0 where
  pub yes : r ≡ true → S ≡ none
  pub no : r ≡ false → (j : ℕ) × (S j ≡ true)

-- R holds of the words of a, b and r at each place
pub record ByWords (R : ℕ → ℕ → ℕ → Type 0) (a b r : List ℕ) : Type 0 where
  pub at : (i : ℕ) → i < 4 → R (get_or a i 0) (get_or b i 0) (get_or r i 0)

-- x is the word i of words that spell the set S
pub record Part (S : ℕ → Bool) (i x : ℕ) : Type 0 where
  pub bits : (t : ℕ) → t < 64 → bit x t ≡ S (i * 64 + t)
