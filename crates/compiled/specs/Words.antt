-- The compiled graph: what the words of `graph` are. A word past the end is 0.
use Rattle.std.specs.Prelude.{List, map, Bool, true, false, ◌&&◌, ℕ, zero, suc, ◌+◌, ◌/◌, ◌%◌, eqb, ltb, get_or}
use Rattle.std.proofs.Math.Option.{Option, none, some}
use Rattle.meaning.specs.Basics.{up_from}
use Rattle.meaning.specs.Graph.{Element, the_node, the_edge, EdgeRow, Graph}
use Rattle.meaning.specs.Image.{some_row_lem}

-- ------------------------------------------------------------------ one word
-- an edge: first end, second end, whether directed
abbrev pub edge_of : ℕ → EdgeRow
edge_of w = record { first = w % 65536; second = w / 65536 % 65536; directed = eqb (w / 4294967296) 1 }

-- a label or a property: the pair of element and name, and the value
abbrev pub pair_of : ℕ → ℕ
pair_of w = w / 17179869184

abbrev pub value_in : ℕ → ℕ
value_in w = w % 17179869184

-- the word has the name of the element
unfoldable pub names : ℕ → ℕ → ℕ → Bool
names w x k = eqb (pair_of w / 65536) x && eqb (pair_of w % 65536) k

-- ------------------------------------------------------------------ the words
module _ (g : List ℕ) where
  unfoldable pub nodes_in_lem : ℕ
  nodes_in_lem = get_or g 0 0

  unfoldable pub edges_in_lem : ℕ
  edges_in_lem = get_or g 1 0

  unfoldable pub labels_in : ℕ
  labels_in = get_or g 2 0

  unfoldable pub properties_in : ℕ
  properties_in = get_or g 3 0

  unfoldable pub edge_in_lem : ℕ → EdgeRow
  edge_in_lem e = edge_of (get_or g (8 + e) 0)

  -- element n below N is node n, element N + e is edge e
  unfoldable pub number_in : Element → ℕ
  number_in (the_node n) = n
  number_in (the_edge e) = nodes_in_lem + e

  -- of the n words from `at` on
  unfoldable pub some_names : ℕ → ℕ → ℕ → ℕ → Bool
  some_names at n x k = some_row_lem n (λ i. names (get_or g (at + i) 0) x k)

  unfoldable pub value_of : ℕ → ℕ → ℕ → ℕ → Option ℕ
  value_of at zero x k = none
  value_of at (suc n) x k = elim (names (get_or g (at + n) 0) x k) [ true ↦ some (value_in (get_or g (at + n) 0)) | false ↦ value_of at n x k ]

  unfoldable pub graph_in : Graph
  graph_in = record {
    nodes = nodes_in_lem;
    edges = map edge_in_lem (up_from edges_in_lem 0);
    label = λ x l. some_names 208 labels_in (number_in x) l;
    property = λ x k. value_of 1008 properties_in (number_in x) k;
  }

  -- the pair of word i from `at` on is below
  unfoldable pub is_below : ℕ → ℕ → ℕ → Bool
  is_below at pair i = ltb (pair_of (get_or g (at + i) 0)) pair
