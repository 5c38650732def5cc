-- 01, 'What the engine covers': eight 64-bit numbers in a lent area of 64 bytes, and what a call writes over lent memory.
use Rattle.std.specs.Prelude.{List, [], ◌++◌, ◌∷◌, Bool, false, true, ◌%◌, ◌*◌, ◌+◌, ◌/◌, suc, zero, ℕ, leb, drop, length, replicate, take}
use Rattle.std.proofs.Math.Option.{none, some}
use Rattle.meaning.specs.Basics.{Cause, each}
use Rattle.meaning.specs.Image.{number}

-- v over the beginning of what was lent; what is past it stays
unfoldable pub over : List ℕ → List ℕ → List ℕ
over v lent = v ++ drop (length v) lent

-- n digits in base 256, low one first
unfoldable pub digits : ℕ → ℕ → List ℕ
digits zero x = []
digits (suc n) x = x % 256 ∷ digits n (x / 256)

-- [0] refusal number, [1] row, then [2] to [5]; [6] and [7] are 0
unfoldable pub report_bytes : ℕ → ℕ → ℕ → ℕ → ℕ → ℕ → List ℕ
report_bytes number row a b c d = each (number ∷ row ∷ a ∷ b ∷ c ∷ d ∷ 0 ∷ 0 ∷ []) (digits 8)

-- the number that n digits are, and number i of a report
unfoldable pub undigits : List ℕ → ℕ
undigits [] = 0
undigits (d ∷ l) = d + 256 * undigits l

unfoldable pub reported : ℕ → List ℕ → ℕ
reported i report = undigits (take 8 (drop (8 * i) report))

unfoldable pub wide_enough_lem : List ℕ → Bool
wide_enough_lem report = leb 64 (length report)

-- a refusal reports 0 for all else
unfoldable pub cause_bytes : Cause → List ℕ
cause_bytes none = report_bytes 0 0 0 0 0 0
cause_bytes (some c) = report_bytes c.0 c.1 0 0 0 0

unfoldable pub bit : Bool → ℕ
bit true = 1
bit false = 0

-- the first n words 0, the rest as it was
unfoldable pub cleared : ℕ → List ℕ → List ℕ
cleared n lent = replicate n 0 ++ drop n lent
