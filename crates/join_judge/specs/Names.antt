-- The named paths behind the values.
use Rattle.std.specs.Prelude.{MatchOption, Option, ◌≡◌, List, ◌++◌, ◌∷◌, Bool, false, true, ◌≤◌, ℕ, drop, length}
use Rattle.join_judge.specs.Paths.{PathsAre}
use Rattle.joins.specs.Flat.{name_words, path_named}
use Rattle.meaning.specs.Graph.{Walk}
use Rattle.meaning.specs.QueryRecord.{query_slot_words}
use Rattle.meaning.specs.QueryWords.{Part}
use Rattle.meaning.specs.Record.{path_words_lem}
use Rattle.parts.specs.Shapes.{ShapeIs}
use Rattle.parts.specs.declared.shape.Shape.{Shape}

-- the words s stand at `at`, and end at r; none: they do not stand there
abbrev pub Stand : (words : List ℕ) (at : ℕ) (s : List ℕ) (r : Option ℕ) → Type 0
Stand words at s r = MatchOption r ((t : List ℕ) → drop at words ≡ s ++ t → ⊥) (λ end. drop at words ≡ s ++ drop end words)

-- the end is one of the words
abbrev pub Within : (words : List ℕ) (r : Option ℕ) → Type 0
Within words r = MatchOption r (Unit {0}) (λ end. end ≤ length words)

-- the same of the path of number i
pub record AfterName (words : List ℕ) (i at : ℕ) (r : Option ℕ) : Type 0 where
  pub high : Within words r
  pub is : (n end : ℕ) (ps₀ : List Walk) (p : Walk) (ps₁ : List Walk) → PathsAre words n end (ps₀ ++ p ∷ ps₁) → length ps₀ ≡ i → Stand words at (path_words_lem p) r

-- and of the path that x names
pub record AfterNamed (words : List ℕ) (shape : Shape) (x at : ℕ) (r : Option ℕ) : Type 0 where
  pub high : Within words r
  pub is : (end : ℕ) (l : List Part) (ps : List Walk) → ShapeIs l shape → PathsAre words shape.parts end ps → Stand words at (query_slot_words (path_named l ps x)) r

-- and of the paths that 9 to 12 name
pub record AfterNames (words : List ℕ) (shape : Shape) (from : ℕ) (r : Option ℕ) : Type 0 where
  pub high : Within words r
  pub is : (end : ℕ) (l : List Part) (ps : List Walk) → ShapeIs l shape → PathsAre words shape.parts end ps → Stand words from (name_words l ps) r

-- r tells whether the words from `from` on are the paths that 9 to 12 name
pub record AreNames (words : List ℕ) (shape : Shape) (from : ℕ) (r : Bool) : Type 0 where
  pub yes_is : r ≡ true → (end : ℕ) (l : List Part) (ps : List Walk) → ShapeIs l shape → PathsAre words shape.parts end ps → drop from words ≡ name_words l ps
  pub no_is : r ≡ false → (end : ℕ) (l : List Part) (ps : List Walk) → ShapeIs l shape → PathsAre words shape.parts end ps → drop from words ≡ name_words l ps → ⊥
