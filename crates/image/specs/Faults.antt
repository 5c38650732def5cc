-- The rows of a section and their faults.
use Rattle.std.specs.Prelude.{List, Bool, ℕ}
use Rattle.meaning.specs.Image.{node_count, edge_count, label_count, property_count, bad_node_lem, bad_edge_lem, bad_label_lem, bad_property_lem}
use Rattle.image.specs.declared.lowest.Section.{Section}
use Rattle.image.specs.declared.lowest.Section.TheVariants.{Nodes, Edges, Labels, Properties}
use Rattle.image.specs.declared.sections.Sections.{Sections}

abbrev pub rows_in : Sections → Section → ℕ
rows_in s Nodes = s.nodes.count
rows_in s Edges = s.edges.count
rows_in s Labels = s.labels.count
rows_in s Properties = s.properties.count

abbrev pub row_count_lem : Section → List ℕ → ℕ
row_count_lem Nodes b = node_count b
row_count_lem Edges b = edge_count b
row_count_lem Labels b = label_count b
row_count_lem Properties b = property_count b

abbrev pub bad_row_lem : Section → List ℕ → ℕ → Bool
bad_row_lem Nodes b = bad_node_lem b
bad_row_lem Edges b = bad_edge_lem b
bad_row_lem Labels b = bad_label_lem b
bad_row_lem Properties b = bad_property_lem b

-- the refusal's number of a faulty row
abbrev pub number_of_section : Section → ℕ
number_of_section Nodes = 4
number_of_section Edges = 5
number_of_section Labels = 6
number_of_section Properties = 7
