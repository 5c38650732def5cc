-- 02, Q-3: a sitting, in 4 lent bytes, low byte first: the total of all records placed on pages since it was fresh, when it was 0.
use Rattle.std.specs.Prelude.{List, Bool, ◌+◌, ℕ, leb, ltb, length, take}
use Rattle.meaning.specs.Report.{digits, over, undigits}

unfoldable pub total_of : List ℕ → ℕ
total_of sitting = undigits (take 4 sitting)

unfoldable pub holds_total : List ℕ → Bool
holds_total sitting = leb 4 (length sitting)

-- n lines more; what is past the 4 bytes stays
unfoldable pub raised : ℕ → List ℕ → List ℕ
raised n sitting = over (digits 4 (total_of sitting + n)) sitting

-- whether n lines more would carry the total past 4,294,967,295
unfoldable pub carries_past : ℕ → List ℕ → Bool
carries_past n sitting = ltb 4294967295 (total_of sitting + n)
