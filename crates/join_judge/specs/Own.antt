-- The own words of one part: its path, and the values of the variables that it uses.
use Rattle.std.specs.Prelude.{◌≡◌, List, [], ◌++◌, ◌+◌, ◌-◌, ◌≤◌, ℕ, drop, length, take, if◌then◌else◌}
use Rattle.std.proofs.Math.Option.{some}
use Rattle.compiled.specs.Parts.{pattern_in_lem}
use Rattle.joins.specs.Projected.{project}
use Rattle.matcher.proofs.Places.{view_at}
use Rattle.matcher.specs.Records.{after_slots}
use Rattle.meaning.specs.Basics.{eight}
use Rattle.meaning.specs.Pattern.{in_var}
use Rattle.meaning.specs.Typing.{Found}
use Rattle.records.specs.Ends.{TypesAre}

-- values of these types stand from `start` on, and end within the words
pub record Valued (words types : List ℕ) (start : ℕ) (f : ℕ → Found) : Type 0 where
  pub types_are : TypesAre types f
  pub rest : List ℕ
  pub ends : after_slots eight f (some (drop start words)) ≡ some rest

pub record SomeValued (words types : List ℕ) (start : ℕ) : Type 0 where
  pub found : ℕ → Found
  pub valued : Valued words types start found

-- r is where such values end; past the words if they do not end there
pub record ValuesEnd (words types : List ℕ) (start r : ℕ) : Type 0 where
  pub is : (f : ℕ → Found) → TypesAre types f → view_at words r ≡ after_slots eight f (some (drop start words))

-- the words from b to c have room behind the first n words of own
pub record Fits (own words : List ℕ) (n b c : ℕ) : Type 0 where
  pub low : b ≤ c
  pub high : c ≤ length words
  pub room : n + (c - b) ≤ length own
  pub few : length own ≤ 20000

-- the words from b to c stand behind the first n words of own, up to r
pub record Appended (own words : List ℕ) (n b c : ℕ) (own' : List ℕ) (r : ℕ) : Type 0 where
  pub end_is : r ≡ n + (c - b)
  pub is : take r own' ≡ take n own ++ take (c - b) (drop b words)

-- the same if the part uses x, and else nothing
pub record ValueAppended (plan own words : List ℕ) (x n b c : ℕ) (own' : List ℕ) (r : ℕ) : Type 0 where
  pub high : r ≤ n + (c - b)
  pub is : take r own' ≡ take n own ++ (if in_var (pattern_in_lem plan) x then take (c - b) (drop b words) else [])

-- the first r words of own are the part's, whose path stands from b to c; the values of all parts stand from `start` on
pub record OwnWritten (plan words types : List ℕ) (b c start : ℕ) (own : List ℕ) (r : ℕ) : Type 0 where
  pub high : r ≤ length own
  pub is : (f : ℕ → Found) → Valued words types start f → take r own ≡ take (c - b) (drop b words) ++ project (in_var (pattern_in_lem plan)) f eight (drop start words)
