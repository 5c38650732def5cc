-- 01, 'The graph image' and 'Read an image': refusals 1 to 7, and the graph of an accepted image.
use Rattle.std.specs.Prelude.{List, map, Bool, true, false, not, ◌&&◌, ◌||◌, ℕ, zero, suc, ◌+◌, ◌*◌, ◌/◌, ◌%◌, eqb, ltb, leb, length, get_or}
use Rattle.std.proofs.Math.Option.{Option, none, some}
use Rattle.meaning.specs.Basics.{lowest, up_from, Cause, first_of, rowless, at_row}
use Rattle.meaning.specs.Graph.{Element, the_node, the_edge, EdgeRow, Graph}

-- 16 bits, low byte first
unfoldable pub number : List ℕ → ℕ → ℕ
number b i = get_or b i 0 + 256 * get_or b (suc i) 0

-- row i stands above row i - 1: of two rows out of order the later is faulty
unfoldable pub rises : ℕ → (ℕ → Bool) → Bool
rises zero f = true
rises (suc i) f = f i

unfoldable pub pair_less_lem : ℕ → ℕ → ℕ → ℕ → Bool
pair_less_lem a c d e = ltb a d || (eqb a d && ltb c e)

-- some row below n passes the test
unfoldable pub some_row_lem : ℕ → (ℕ → Bool) → Bool
some_row_lem zero f = false
some_row_lem (suc n) f = f n || some_row_lem n f

module _ (image : List ℕ) where
  -- the directory: offset and length, in bytes, of nodes, edges, labels, properties
  unfoldable pub offset : ℕ → ℕ
  offset k = number image (4 * k)

  unfoldable pub section_length : ℕ → ℕ
  section_length k = number image (4 * k + 2)

  unfoldable pub node_count : ℕ
  node_count = section_length 0 / 2

  unfoldable pub edge_count : ℕ
  edge_count = section_length 1 / 6

  unfoldable pub label_count : ℕ
  label_count = section_length 2 / 4

  unfoldable pub property_count : ℕ
  property_count = section_length 3 / 6

  -- the numbers of a row
  unfoldable pub node_cell_lem : ℕ → ℕ
  node_cell_lem i = number image (offset 0 + 2 * i)

  unfoldable pub edge_cell_lem : ℕ → ℕ → ℕ
  edge_cell_lem i j = number image (offset 1 + (6 * i + 2 * j))

  unfoldable pub label_cell_lem : ℕ → ℕ → ℕ
  label_cell_lem i j = number image (offset 2 + (4 * i + 2 * j))

  unfoldable pub property_cell_lem : ℕ → ℕ → ℕ
  property_cell_lem i j = number image (offset 3 + (6 * i + 2 * j))

  -- 2: each section begins where the one before ends, with whole rows, and the last ends with the image
  unfoldable pub good_directory_lem : Bool
  good_directory_lem = eqb (offset 0) 16 && (eqb (offset 1) (offset 0 + section_length 0) && (eqb (offset 2) (offset 1 + section_length 1) && (eqb (offset 3) (offset 2 + section_length 2) && (eqb (length image) (offset 3 + section_length 3)
      && (eqb (section_length 0 % 2) 0 && (eqb (section_length 1 % 6) 0 && (eqb (section_length 2 % 4) 0 && eqb (section_length 3 % 6) 0)))))))

  -- 3
  unfoldable pub too_many : Bool
  too_many = not ((leb node_count 200 && leb edge_count 200) && (leb label_count 800 && leb property_count 2000))

  -- 4 to 7
  unfoldable pub bad_node_lem : ℕ → Bool
  bad_node_lem i = not (rises i (λ j. ltb (node_cell_lem j) (node_cell_lem i)))

  unfoldable pub bad_edge_lem : ℕ → Bool
  bad_edge_lem i = not ((ltb (edge_cell_lem i 0) node_count && ltb (edge_cell_lem i 1) node_count) && (eqb (edge_cell_lem i 2) 1 || (eqb (edge_cell_lem i 2) 0 && leb (edge_cell_lem i 0) (edge_cell_lem i 1))))

  unfoldable pub bad_label_lem : ℕ → Bool
  bad_label_lem i = not ((ltb (label_cell_lem i 0) (node_count + edge_count) && not (eqb (label_cell_lem i 1) 0)) && rises i (λ j. pair_less_lem (label_cell_lem j 0) (label_cell_lem j 1) (label_cell_lem i 0) (label_cell_lem i 1)))

  unfoldable pub bad_property_lem : ℕ → Bool
  bad_property_lem i = not (ltb (property_cell_lem i 0) (node_count + edge_count) && rises i (λ j. pair_less_lem (property_cell_lem j 0) (property_cell_lem j 1) (property_cell_lem i 0) (property_cell_lem i 1)))

  -- the lowest faulty row of a section, sections in order
  unfoldable pub row_fault : Cause
  row_fault = first_of (at_row 4 (lowest node_count 0 bad_node_lem)) (first_of (at_row 5 (lowest edge_count 0 bad_edge_lem)) (first_of (at_row 6 (lowest label_count 0 bad_label_lem)) (at_row 7 (lowest property_count 0 bad_property_lem))))

  unfoldable pub image_fault : Cause
  image_fault = first_of (rowless 1 (ltb (length image) 16)) (first_of (rowless 2 (not good_directory_lem)) (first_of (rowless 3 too_many) row_fault))

  -- ------------------------------------------------------------------ the graph
  -- element n below N is node n, element N + e is edge e
  unfoldable pub element_number : Element → ℕ
  element_number (the_node n) = n
  element_number (the_edge e) = node_count + e

  unfoldable pub value_in : ℕ → Element → ℕ → Option ℕ
  value_in zero x k = none
  value_in (suc n) x k = elim (eqb (property_cell_lem n 0) (element_number x) && eqb (property_cell_lem n 1) k) [ true ↦ some (property_cell_lem n 2) | false ↦ value_in n x k ]

  unfoldable pub edge_row : ℕ → EdgeRow
  edge_row i = record { first = edge_cell_lem i 0; second = edge_cell_lem i 1; directed = eqb (edge_cell_lem i 2) 1 }

  unfoldable pub graph_of : Graph
  graph_of = record {
    nodes = node_count;
    edges = map edge_row (up_from edge_count 0);
    label = λ x l. some_row_lem label_count (λ i. eqb (label_cell_lem i 0) (element_number x) && eqb (label_cell_lem i 1) l);
    property = λ x k. value_in property_count x k;
  }
