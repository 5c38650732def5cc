-- What the counts and offsets of the sections are, in the definitions' terms.
use Rattle.std.specs.Prelude.{◌≡◌, List, Bool, not, ◌&&◌, ℕ, ◌<◌, leb}
use Rattle.std.proofs.Math.Option.{none}
use Rattle.meaning.specs.Image.{offset, node_count, edge_count, label_count, property_count, image_fault}
use Rattle.image.specs.declared.sections.Sections.{Sections}

-- a count and an offset, as 16 bits hold them
pub record Laid (image : List ℕ) (s : Sections) : Type 0 where
  pub nodes : s.nodes.count ≡ node_count image
  pub edges : s.edges.count ≡ edge_count image
  pub labels : s.labels.count ≡ label_count image
  pub properties : s.properties.count ≡ property_count image
  pub nodes_at : s.nodes.at ≡ offset image 0
  pub edges_at : s.edges.at ≡ offset image 1
  pub labels_at : s.labels.at ≡ offset image 2
  pub properties_at : s.properties.at ≡ offset image 3
  pub nodes_few : s.nodes.count < 65536
  pub edges_few : s.edges.count < 65536
  pub labels_few : s.labels.count < 65536
  pub properties_few : s.properties.count < 65536
  pub nodes_near : s.nodes.at < 65536
  pub edges_near : s.edges.at < 65536
  pub labels_near : s.labels.at < 65536
  pub properties_near : s.properties.at < 65536

-- more rows than a section may have
abbrev pub crowded : Sections → Bool
crowded s = not ((leb s.nodes.count 200 && leb s.edges.count 200) && (leb s.labels.count 800 && leb s.properties.count 2000))

-- what is asked of whoever reads cells: the reader found no fault
pub record Checked (image : List ℕ) (s : Sections) : Type 0 where
  pub laid : Laid image s
  pub sound : image_fault image ≡ none
