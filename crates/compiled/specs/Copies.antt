-- What the words are made of, and what `fill_graph` and `fill_part` promise.
use Rattle.std.specs.Prelude.{◌≡◌, List, ℕ, ◌*◌, ◌+◌, ◌/◌, ◌%◌, ◌<◌, ◌≤◌, get_or, length}
use Rattle.meaning.specs.Answer.{restrictor_of}
use Rattle.meaning.specs.Basics.{eight}
use Rattle.meaning.specs.Image.{edge_row, graph_of, label_cell_lem, property_cell_lem}
use Rattle.meaning.specs.Typing.{type_of}
use Rattle.table.specs.Variables.{mask_of, pattern_at_lem}
use Rattle.typecode.specs.Codes.{code_of}
use Rattle.compiled.specs.Derived.{RowsAre}
use Rattle.compiled.specs.Words.{edge_of, graph_in, pair_of, value_in}
use Rattle.compiled.specs.Parts.{Tabled, restrictor_in, table_in}
use Rattle.compiled.specs.Sound.{Lawful}

-- the word is row i of its section
pub record EdgeWord (image : List ℕ) (i w : ℕ) : Type 0 where
  pub is : edge_of w ≡ edge_row image i

pub record LabelWord (image : List ℕ) (i w : ℕ) : Type 0 where
  pub owner : pair_of w / 65536 ≡ label_cell_lem image i 0
  pub name : pair_of w % 65536 ≡ label_cell_lem image i 1

pub record PropertyWord (image : List ℕ) (i w : ℕ) : Type 0 where
  pub owner : pair_of w / 65536 ≡ property_cell_lem image i 0
  pub name : pair_of w % 65536 ≡ property_cell_lem image i 1
  pub value : value_in w ≡ property_cell_lem image i 2

pub record TableWord (pattern : List ℕ) (i w : ℕ) : Type 0 where
  pub is : w ≡ get_or pattern i 0
  pub small : w < 65536

-- the n words from `at` on are such, and the others as they were
pub record Put (at : ℕ) (P : ℕ → ℕ → Type 0) (n : ℕ) (g₀ g : List ℕ) : Type 0 where
  pub here : (i : ℕ) → i < n → P i (get_or g (at + i) 0)
  pub low : (j : ℕ) → j < at → get_or g j 0 ≡ get_or g₀ j 0
  pub high : (j : ℕ) → at + n ≤ j → get_or g j 0 ≡ get_or g₀ j 0
  pub long : length g ≡ length g₀

-- ------------------------------------------------------------------ contracts
pub record GraphFilled (image g : List ℕ) : Type 0 where
  pub lawful : Lawful g
  pub is : graph_in g ≡ graph_of image

-- the variables and the types of each row, in words of their own
pub record RowsFilled (pattern words : List ℕ) : Type 0 where
  pub variables : (i : ℕ) → i * 5 + 5 ≤ length pattern → get_or words i 0 ≡ mask_of (pattern_at_lem pattern i) eight
  pub types : (i : ℕ) → i * 5 + 5 ≤ length pattern → (x : ℕ) → 1 ≤ x → x < 9 → get_or words (8 * i + 63 + x) 0 ≡ code_of (type_of (pattern_at_lem pattern i) x)

pub record HeadFilled (pattern : List ℕ) (restrictor : ℕ) (p : List ℕ) : Type 0 where
  pub tabled : Tabled p
  pub is : table_in p ≡ pattern
  pub restrictor_is : restrictor_in p ≡ restrictor_of restrictor

pub record PartFilled (pattern : List ℕ) (restrictor : ℕ) (p : List ℕ) : Type 0 where
  pub tabled : Tabled p
  pub rows : RowsAre p
  pub is : table_in p ≡ pattern
  pub restrictor_is : restrictor_in p ≡ restrictor_of restrictor
