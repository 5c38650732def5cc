-- What a plan has behind its table, derived from table and graph: where each thing stands.
use Rattle.std.specs.Prelude.{◌≡◌, List, ℕ, ◌*◌, ◌+◌, ◌<◌, ◌≤◌, get_or, length}
use Rattle.bits.specs.Stores.{set_at}
use Rattle.meaning.specs.Basics.{eight}
use Rattle.meaning.specs.Typing.{type_of}
use Rattle.table.specs.Variables.{mask_of, pattern_at_lem}
use Rattle.typecode.specs.Codes.{code_of}
use Rattle.compiled.specs.Parts.{table_in}

-- the words of a graph, and of a plan
abbrev pub graph_words : ℕ
graph_words = 3008

abbrev pub plan_words : ℕ
plan_words = 3336

-- the variables of a row, as bits
abbrev pub variables_in : List ℕ → ℕ → ℕ
variables_in p row = get_or p (328 + row) 0

-- the type of the variable x, 1 to 8, in a row: x words behind this place
abbrev pub types_at : ℕ → ℕ
types_at row = 8 * row + 391

abbrev pub type_in_lem : List ℕ → ℕ → ℕ → ℕ
type_in_lem p row x = get_or p (8 * row + 391 + x) 0

-- the edges that a match can cross from the node u, as the four words of a set
abbrev pub leaving_in : List ℕ → ℕ → List ℕ
leaving_in p u = set_at p (226 + u)

-- the places of the masks: of the rows, as bits, that the node u fits; that the step along the edge e fits, from its first end to its second;
-- and that the step against it fits
abbrev pub node_rows_at : ℕ → ℕ
node_rows_at u = 1928 + u

abbrev pub along_rows_at : ℕ → ℕ
along_rows_at e = 2128 + e

abbrev pub against_rows_at : ℕ → ℕ
against_rows_at e = 2328 + e

abbrev pub node_rows_in : List ℕ → ℕ → ℕ
node_rows_in p u = get_or p (1928 + u) 0

abbrev pub along_rows_in : List ℕ → ℕ → ℕ
along_rows_in p e = get_or p (2128 + e) 0

abbrev pub against_rows_in : List ℕ → ℕ → ℕ
against_rows_in p e = get_or p (2328 + e) 0

-- the ends of the matches in which the watched variable has the element k, as the four words of a set; and which variable that is: twice its
-- number, one more if its elements are edges, 0 for none
abbrev pub onward_in : List ℕ → ℕ → List ℕ
onward_in p k = set_at p (632 + k)

abbrev pub watched_in : List ℕ → ℕ
watched_in p = get_or p 3332 0

-- the numbers of edges that a match can have
abbrev pub lengths_in : List ℕ → List ℕ
lengths_in p = set_at p 832

-- the variables and the types of every row of the table
pub record RowsAre (p : List ℕ) : Type 0 where
  pub variables : (i : ℕ) → i * 5 + 5 ≤ length (table_in p) → variables_in p i ≡ mask_of (pattern_at_lem (table_in p) i) eight
  pub types : (i : ℕ) → i * 5 + 5 ≤ length (table_in p) → (x : ℕ) → 1 ≤ x → x < 9 → type_in_lem p i x ≡ code_of (type_of (pattern_at_lem (table_in p) i) x)

-- ------------------------------------------------------------------ contracts
-- table, restrictor, and the variables and types of the rows stay
pub record Kept (p₀ p : List ℕ) : Type 0 where
  pub long : length p ≡ length p₀
  pub low : (j : ℕ) → j < 904 → get_or p j 0 ≡ get_or p₀ j 0

-- the masks stay: all words behind the sets
pub record MasksKept (p₀ p : List ℕ) : Type 0 where
  pub is : (j : ℕ) → 1928 ≤ j → get_or p j 0 ≡ get_or p₀ j 0

-- the edges that a match can cross stay
pub record LeavingKept (p₀ p : List ℕ) : Type 0 where
  pub is : (u : ℕ) → u < 256 → leaving_in p u ≡ leaving_in p₀ u

-- w is put as the set of the node u
pub record LeavingPut (u : ℕ) (w p₀ p : List ℕ) : Type 0 where
  pub kept : Kept p₀ p
  pub masks : MasksKept p₀ p
  pub here : leaving_in p u ≡ w
  pub other : (v : ℕ) → (v ≡ u → ⊥) → leaving_in p v ≡ leaving_in p₀ v

-- x is put as the mask at a place
pub record MaskPut (at x : ℕ) (p₀ p : List ℕ) : Type 0 where
  pub kept : Kept p₀ p
  pub leaving : LeavingKept p₀ p
  pub here : get_or p at 0 ≡ x
  pub other : (j : ℕ) → (j ≡ at → ⊥) → get_or p j 0 ≡ get_or p₀ j 0

-- all words before those of the watched variable and of the lengths stay
pub record DerivedKept (p₀ p : List ℕ) : Type 0 where
  pub long : length p ≡ length p₀
  pub low : (j : ℕ) → j < 2528 → get_or p j 0 ≡ get_or p₀ j 0

-- w is put as the set of the element k
pub record OnwardPut (k : ℕ) (w p₀ p : List ℕ) : Type 0 where
  pub kept : DerivedKept p₀ p
  pub watched : watched_in p ≡ watched_in p₀
  pub here : onward_in p k ≡ w
  pub other : (j : ℕ) → j < 200 → (j ≡ k → ⊥) → onward_in p j ≡ onward_in p₀ j
  pub lengths : lengths_in p ≡ lengths_in p₀

-- x is put as the watched variable
pub record WatchedPut (x : ℕ) (p₀ p : List ℕ) : Type 0 where
  pub kept : DerivedKept p₀ p
  pub here : watched_in p ≡ x
  pub onward : (k : ℕ) → k < 200 → onward_in p k ≡ onward_in p₀ k
  pub lengths : lengths_in p ≡ lengths_in p₀

-- w is put as the set of the lengths
pub record LengthsPut (w p₀ p : List ℕ) : Type 0 where
  pub kept : DerivedKept p₀ p
  pub watched : watched_in p ≡ watched_in p₀
  pub here : lengths_in p ≡ w
