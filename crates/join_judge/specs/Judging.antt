-- What the judge of a join promises, and its parts.
use Rattle.std.specs.Prelude.{◌≡◌, List, ◌++◌, ◌∷◌, Bool, false, true, ℕ, drop, length}
use Rattle.std.proofs.Math.Option.{some}
use Rattle.compiled.specs.Words.{graph_in}
use Rattle.join_judge.specs.Paths.{PathsAre}
use Rattle.joins.proofs.PathLevel.{part_listing_lem}
use Rattle.joins.proofs.ValueLevel.{AllWhole}
use Rattle.joins.specs.Projected.{found_in, project, uses}
use Rattle.matcher.specs.Records.{after_slots}
use Rattle.meaning.specs.Basics.{◌∈◌, eight}
use Rattle.meaning.specs.Graph.{Walk}
use Rattle.meaning.specs.QueryWords.{Part}
use Rattle.meaning.specs.Record.{Record, path_words_lem}
use Rattle.parts.specs.Paths.{joined}
use Rattle.parts.specs.Plans.{AllPlanned}
use Rattle.parts.specs.Shapes.{ShapeIs}
use Rattle.parts.specs.declared.shape.Shape.{Shape}

-- the words begin with the paths ps of the parts l, up to `end`; then come whole values, and the rest
pub record Laid (graph plans words : List ℕ) (shape : Shape) (end : ℕ) (l : List Part) (ps : List Walk) (rest : List ℕ) : Type 0 where
  pub planned : AllPlanned graph plans l
  pub shape_is : ShapeIs l shape
  pub paths_are : PathsAre words shape.parts end ps
  pub ends : after_slots eight (found_in l) (some (drop end words)) ≡ some rest

pub record SomeLaid (graph plans words : List ℕ) (shape : Shape) (end : ℕ) : Type 0 where
  pub query : List Part
  pub paths : List Walk
  pub rest : List ℕ
  pub laid : Laid graph plans words shape end query paths rest

-- the own words of the part a of l, on its path p
abbrev pub own_words : List ℕ → ℕ → List Part → Part → Walk → Record
own_words words end l a p = path_words_lem p ++ project (uses a) (found_in l) eight (drop end words)

-- r tells whether the own words of the part i are a record of it
pub record PartJudged (graph plans words : List ℕ) (shape : Shape) (end i : ℕ) (r : Bool) : Type 0 where
  pub yes_is : r ≡ true → (l : List Part) (ps : List Walk) (rest : List ℕ) → Laid graph plans words shape end l ps rest →
      (l₀ : List Part) (a : Part) (l₁ : List Part) → l ≡ l₀ ++ a ∷ l₁ → length l₀ ≡ i → (ps₀ : List Walk) (p : Walk) (ps₁ : List Walk) → ps ≡ ps₀ ++ p ∷ ps₁ → length ps₀ ≡ i → own_words words end l a p ∈ part_listing_lem (graph_in graph) a
  pub no_is : r ≡ false → (l : List Part) (ps : List Walk) (rest : List ℕ) → Laid graph plans words shape end l ps rest →
      (l₀ : List Part) (a : Part) (l₁ : List Part) → l ≡ l₀ ++ a ∷ l₁ → length l₀ ≡ i → (ps₀ : List Walk) (p : Walk) (ps₁ : List Walk) → ps ≡ ps₀ ++ p ∷ ps₁ → length ps₀ ≡ i → own_words words end l a p ∈ part_listing_lem (graph_in graph) a → ⊥

-- those of each part
pub record PartsJudged (graph plans words : List ℕ) (shape : Shape) (end : ℕ) (r : Bool) : Type 0 where
  pub yes_is : r ≡ true → (l : List Part) (ps : List Walk) (rest : List ℕ) → Laid graph plans words shape end l ps rest → AllWhole (graph_in graph) (found_in l) l ps (drop end words)
  pub no_is : r ≡ false → (l : List Part) (ps : List Walk) (rest : List ℕ) → Laid graph plans words shape end l ps rest → AllWhole (graph_in graph) (found_in l) l ps (drop end words) → ⊥

-- r tells whether the words are a record of the join
pub record JoinJudges (graph plans words : List ℕ) (shape : Shape) (r : Bool) : Type 0 where
  pub yes_is : r ≡ true → (l : List Part) → AllPlanned graph plans l → ShapeIs l shape → words ∈ joined graph l
  pub no_is : r ≡ false → (l : List Part) → AllPlanned graph plans l → ShapeIs l shape → words ∈ joined graph l → ⊥
