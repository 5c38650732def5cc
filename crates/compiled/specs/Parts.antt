-- The plan of a part: what its first words are. Words 8 to 327 are the table.
use Rattle.std.specs.Prelude.{◌≡◌, List, ℕ, ◌+◌, ◌<◌, ◌≤◌, drop, get_or, length, take}
use Rattle.meaning.specs.Answer.{Restrictor, restrictor_of}
use Rattle.meaning.specs.Pattern.{Pattern}
use Rattle.meaning.specs.Table.{pattern_of}

module _ (p : List ℕ) where
  -- the words of the table, as the pattern was lent
  unfoldable pub table_in : List ℕ
  table_in = take (get_or p 0 0) (drop 8 p)

  abbrev pub pattern_in_lem : Pattern
  pattern_in_lem = pattern_of table_in

  unfoldable pub restrictor_in : Restrictor
  restrictor_in = restrictor_of (get_or p 1 0)

-- the table is whole, and its numbers have 16 bits
pub record Tabled (p : List ℕ) : Type 0 where
  pub size : length (table_in p) ≡ get_or p 0 0
  pub short : get_or p 0 0 ≤ 320
  pub small : (j : ℕ) → j < get_or p 0 0 → get_or p (8 + j) 0 < 65536

-- the words of table and restrictor stay
pub record HeadKept (p₀ p : List ℕ) : Type 0 where
  pub long : length p ≡ length p₀
  pub low : (j : ℕ) → j < 328 → get_or p j 0 ≡ get_or p₀ j 0
