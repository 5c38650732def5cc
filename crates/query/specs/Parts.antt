-- The parts of a query's words, as they are looked up.
use Rattle.std.specs.Prelude.{◌≡◌, List, ◌∷◌, ◌++◌, ℕ, ◌+◌, ◌-◌, ◌*◌, ◌<◌, ◌≤◌, length, take, drop}
use Rattle.meaning.specs.QueryWords.{lengths_of, parts_of}
use Rattle.meaning.specs.QueryWords.{Part as PartOf}
use Rattle.query.specs.declared.layout.Part.{Part}

-- the part that a head and two indices are, in these words
abbrev pub part_in : List ℕ → Part → PartOf
part_in query r = record { restrictor = r.restrictor; name = r.name; words = take (r.to - r.from) (drop r.from query) }

-- r is the part i
pub record PartIs (query : List ℕ) (i : ℕ) (r : Part) : Type 0 where
  pub is : (l₀ : List PartOf) (a : PartOf) (l₁ : List PartOf) → parts_of query ≡ l₀ ++ a ∷ l₁ → length l₀ ≡ i → a ≡ part_in query r
  pub among : i < 4
  pub rises : r.from ≤ r.to
  pub within : r.to ≤ length query
  pub restrictor_fits : r.restrictor < 65536
  pub name_fits : r.name < 65536

-- r parts, one to four
pub record PartsCounted (query : List ℕ) (r : ℕ) : Type 0 where
  pub is : r ≡ length (parts_of query)
  pub some_part : 1 ≤ r
  pub few : r ≤ 4

-- r is where the words of i patterns end, behind the heads of n parts
pub record StartIs (query : List ℕ) (n i r : ℕ) : Type 0 where
  pub is : r ≡ 1 + 3 * n + lengths_of i (drop 1 query)
  pub small : r ≤ 13 + 65536 * i
