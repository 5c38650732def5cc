-- What the parts of the judge promise. rec are the words that are judged; last is the number of edges of the path that they tell.
use Rattle.std.specs.Prelude.{◌≡◌, List, Bool, ◌&&◌, false, true, ◌*◌, ◌+◌, ◌<◌, ◌≤◌, ℕ, drop, get_or, length}
use Rattle.compiled.specs.Parts.{pattern_in_lem, restrictor_in}
use Rattle.compiled.specs.Words.{graph_in}
use Rattle.matcher.specs.Judge.{at_end_lem, judge_words_lem, unrepeated}
use Rattle.matcher.specs.Records.{after_slots, edge_word_lem, node_word_lem, record_ends_lem}
use Rattle.matcher.specs.Search.{subpath}
use Rattle.matcher.specs.Values.{skip}
use Rattle.meaning.specs.Basics.{◌∈◌, eight}
use Rattle.meaning.specs.Graph.{Walk}
use Rattle.meaning.specs.Listing.{listing}
use Rattle.meaning.specs.Typing.{type_of}
use Rattle.path.specs.Masks.{base_of}
use Rattle.path.specs.declared.base.Base.{Base}
use Rattle.promises.specs.Goals.{base_in}
use Rattle.search.specs.Joined.{Joins, NoneBelow}

-- the first word is the number of edges, and the words have room for the path and are not too many
pub record Told (rec : List ℕ) (last : ℕ) : Type 0 where
  pub first : get_or rec 0 0 ≡ last
  pub whole : 2 * last + 2 ≤ length rec
  pub few : last ≤ 200
  pub short : length rec ≤ 20000

-- the path that the words tell
abbrev pub told : List ℕ → ℕ → Walk
told rec last = subpath (node_word_lem (drop 1 rec)) (edge_word_lem (drop 1 rec)) 0 last

-- every node of the path is below count
pub record NodesBelow (rec : List ℕ) (last count : ℕ) : Type 0 where
  pub node : (i : ℕ) → i ≤ last → get_or rec (2 * i + 1) 0 < count

pub record NodesWithin (rec : List ℕ) (last count : ℕ) (r : Bool) : Type 0 where
  pub yes_is : r ≡ true → NodesBelow rec last count
  pub no_is : r ≡ false → (i : ℕ) × (i ≤ last) × (count ≤ get_or rec (2 * i + 1) 0)

-- masks can hold the nodes and the edges of the path
pub record Small (rec : List ℕ) (last : ℕ) : Type 0 where
  pub node : (i : ℕ) → i ≤ last → get_or rec (2 * i + 1) 0 < 256
  pub edge : (i : ℕ) → i < last → get_or rec (2 * i + 2) 0 < 256

-- r tells whether the path keeps the base
pub record RepeatsNothing (rec : List ℕ) (last : ℕ) (b : Base) (r : Bool) : Type 0 where
  pub is : Small rec last → r ≡ unrepeated (base_of b) (told rec last)

-- r tells whether the values end where the words end, and the path's end is an end of a match with them
pub record Matches (graph plan rec : List ℕ) (last : ℕ) (r : Bool) : Type 0 where
  pub is : r ≡ (at_end_lem (after_slots eight (type_of (pattern_in_lem plan)) (skip (2 * last + 1) (drop 1 rec))) && record_ends_lem (graph_in graph) eight (pattern_in_lem plan) last (drop 1 rec) last)

-- r tells whether no answer of the base with fewer than n edges leads from u to v
pub record NoneShorter (graph plan : List ℕ) (n u v : ℕ) (r : Bool) : Type 0 where
  pub yes_is : r ≡ true → NoneBelow (graph_in graph) (base_in plan) (pattern_in_lem plan) n u v
  pub no_is : r ≡ false → (m : ℕ) × (m < n) × Joins (graph_in graph) (base_in plan) (pattern_in_lem plan) m u v

-- r tells whether the words are a record of the listing
pub record Judges (graph plan rec : List ℕ) (r : Bool) : Type 0 where
  pub yes_is : r ≡ true → rec ∈ listing (graph_in graph) (restrictor_in plan) (pattern_in_lem plan)
  pub no_is : r ≡ false → rec ∈ listing (graph_in graph) (restrictor_in plan) (pattern_in_lem plan) → ⊥

-- the same, if they are the record of an answer of the pattern
pub record JudgedAnswer (graph plan rec : List ℕ) (r : Bool) : Type 0 where
  pub is : judge_words_lem (graph_in graph) eight (pattern_in_lem plan) rec ≡ true → Judges graph plan rec r
