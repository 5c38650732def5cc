-- The paths that words begin with: each is a count of edges, at most 200 (01), and as many places.
use Rattle.std.specs.Prelude.{MatchOption, Option, ◌≡◌, List, ◌++◌, ◌∷◌, ◌+◌, ◌-◌, ◌<◌, ◌≤◌, ℕ, drop, length, take}
use Rattle.meaning.proofs.QueryReading.{PathsFew}
use Rattle.meaning.specs.Basics.{each}
use Rattle.meaning.specs.Graph.{Walk, len}
use Rattle.meaning.specs.Record.{path_words_lem}

-- a path stands at `at`, and ends at end
pub record PathUpTo (words : List ℕ) (at end : ℕ) : Type 0 where
  pub within : end ≤ length words
  pub found : (p : Walk) × (len p ≤ 200) × (drop at words ≡ path_words_lem p ++ drop end words) × (end ≡ at + length (path_words_lem p))
  pub is : (p : Walk) (t : List ℕ) → len p ≤ 200 → drop at words ≡ path_words_lem p ++ t → end ≡ at + length (path_words_lem p)

-- it ends at r; none: no path stands there
pub record PathEnd (words : List ℕ) (at : ℕ) (r : Option ℕ) : Type 0 where
  pub is : MatchOption r ((p : Walk) (t : List ℕ) → len p ≤ 200 → drop at words ≡ path_words_lem p ++ t → ⊥) (PathUpTo words at)

-- ps are the first n paths of the words, and end where they end
pub record PathsAre (words : List ℕ) (n end : ℕ) (ps : List Walk) : Type 0 where
  pub count : length ps ≡ n
  pub few : PathsFew 200 ps
  pub words_are : words ≡ each ps path_words_lem ++ drop end words
  pub end_is : end ≡ length (each ps path_words_lem)

-- there are n such paths
pub record Begun (words : List ℕ) (n end : ℕ) : Type 0 where
  pub paths : List Walk
  pub paths_are : PathsAre words n end paths

-- the same, wherever they end
pub record HasPaths (words : List ℕ) (n : ℕ) : Type 0 where
  pub end : ℕ
  pub begun : Begun words n end

-- there are more than i
pub record HasPath (words : List ℕ) (i : ℕ) : Type 0 where
  pub count : ℕ
  pub more : i < count
  pub has : HasPaths words count

-- the first n paths end at end
pub record PathsUpTo (words : List ℕ) (n end : ℕ) : Type 0 where
  pub begun : Begun words n end
  pub is : (ps : List Walk) (t : List ℕ) → length ps ≡ n → PathsFew 200 ps → words ≡ each ps path_words_lem ++ t → end ≡ length (each ps path_words_lem)

-- they end at r; none: there are no such paths
pub record PathsEnd (words : List ℕ) (n : ℕ) (r : Option ℕ) : Type 0 where
  pub is : MatchOption r ((ps : List Walk) (t : List ℕ) → length ps ≡ n → PathsFew 200 ps → words ≡ each ps path_words_lem ++ t → ⊥) (PathsUpTo words n)

-- the words from `from` to `to` are the path of number i
pub record SpanIs (words : List ℕ) (i from to : ℕ) : Type 0 where
  pub low : from ≤ to
  pub high : to ≤ length words
  pub within : (n end : ℕ) (ps : List Walk) → PathsAre words n end ps → i < n → to ≤ end
  pub is : (n end : ℕ) (ps₀ : List Walk) (p : Walk) (ps₁ : List Walk) → PathsAre words n end (ps₀ ++ p ∷ ps₁) → length ps₀ ≡ i → take (to - from) (drop from words) ≡ path_words_lem p
