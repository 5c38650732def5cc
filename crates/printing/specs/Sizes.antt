-- Where paths, values and records end in words of which nothing is known: as far on as the definitions of a record say, but
-- never past the words' end.
use Rattle.std.specs.Prelude.{◌≡◌, ℕ, zero, suc, ◌+◌, ◌-◌, ◌*◌, ◌<◌, ◌≤◌, min, List, ◌++◌, length, take, drop, slice_index}
use Rattle.meaning.specs.Record.{path_size_lem, record_size_lem, slot_size_lem, value_size_lem}
use Rattle.meaning.specs.Table.{ty_words}
use Rattle.meaning.specs.Typing.{Edge, Found, Group, Maybe, Node, Ty, absent, clash, typed}

-- the numbers of a type stand in t from k on
unfoldable pub TypeAt : Ty → List ℕ → ℕ → Type 0
TypeAt Node t k = slice_index t k ≡ 1
TypeAt Edge t k = slice_index t k ≡ 2
TypeAt (Maybe τ) t k = (slice_index t k ≡ 3) × TypeAt τ t (k + 1)
TypeAt (Group τ) t k = (slice_index t k ≡ 4) × TypeAt τ t (k + 1)

-- what is known of a variable stands there; 0 where it has no type
unfoldable pub SlotAt : Found → List ℕ → ℕ → Type 0
SlotAt absent t k = slice_index t k ≡ 0
SlotAt clash t k = slice_index t k ≡ 0
SlotAt (typed τ) t k = TypeAt τ t k × (length (ty_words τ) ≤ 6)

-- t is the type area of variables of the types f
abbrev pub TypesAt : (ℕ → Found) → List ℕ → Type 0
TypesAt f t = (i : ℕ) → i < 8 → SlotAt (f (suc i)) t (6 * i)

-- r is s words on from at, or the end
abbrev pub Forward : List ℕ → ℕ → ℕ → ℕ → Type 0
Forward w at s r = r ≡ min (at + s) (length w)

-- where the path ends that begins at a place
pub record PathEnd (w : List ℕ) (at r : ℕ) : Type 0 where
  pub is : Forward w at (path_size_lem (drop at w)) r
  pub within : (r ≤ length w) × (min (at + 1) (length w) ≤ r)

-- the value of a type whose numbers, left at most, stand in t from k on
pub record ValueEnd (left : ℕ) (t : List ℕ) (k : ℕ) (w : List ℕ) (at r : ℕ) : Type 0 where
  pub is : (τ : Ty) → TypeAt τ t k → length (ty_words τ) ≤ left → Forward w at (value_size_lem τ (drop at w)) r
  pub within : (r ≤ length w) × (min at (length w) ≤ r)

-- the group of such values
pub record GroupEnd (left : ℕ) (t : List ℕ) (k : ℕ) (w : List ℕ) (at r : ℕ) : Type 0 where
  pub is : (τ : Ty) → TypeAt τ t k → length (ty_words τ) ≤ left → Forward w at (value_size_lem (Group τ) (drop at w)) r
  pub within : (r ≤ length w) × (min at (length w) ≤ r)

-- where the value of variable i + 1 ends
pub record VariableEnd (i : ℕ) (t w : List ℕ) (at r : ℕ) : Type 0 where
  pub is : (f : Found) → SlotAt f t (6 * i) → Forward w at (slot_size_lem f (drop at w)) r
  pub within : (r ≤ length w) × (at ≤ r)

-- where the record ends
pub record RecordEnd (t w : List ℕ) (at r : ℕ) : Type 0 where
  pub is : (f : ℕ → Found) → TypesAt f t → Forward w at (record_size_lem f (drop at w)) r
  pub within : (r ≤ length w) × (min (at + 1) (length w) ≤ r)

-- where the record behind k others begins
unfoldable pub start_of : (ℕ → Found) → List ℕ → ℕ → ℕ
start_of f w zero = 0
start_of f w (suc k) = start_of f w k + record_size_lem f (drop (start_of f w k) w)

-- the last record of some words begins at r: with it the words end
pub record LastRecord (t w : List ℕ) (r : ℕ) : Type 0 where
  pub is : (f : ℕ → Found) → TypesAt f t → 0 < length w → (k : ℕ) × (r ≡ start_of f w k) × (length w ≤ start_of f w (suc k))
  pub within : r ≤ length w
  pub inside : 0 < length w → r < length w

-- of a page the first words are used; the first r words of mark are a copy of its last record, with which these words end
pub record Marked (t page : List ℕ) (used : ℕ) (mark : List ℕ) (r : ℕ) : Type 0 where
  pub last : LastRecord t (take used page) (used - r)
  pub copied : take used page ≡ take (used - r) page ++ take r mark
  pub within : r ≤ used
