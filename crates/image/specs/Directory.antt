-- What the directory's numbers are, in the definitions' terms.
use Rattle.std.specs.Prelude.{◌≡◌, List, Bool, ◌&&◌, ℕ, ◌+◌, ◌%◌, ◌<◌, eqb}
use Rattle.meaning.specs.Image.{offset, section_length}
use Rattle.image.specs.declared.directory.Directory.{Directory}
use Rattle.image.specs.declared.directory.Extent.{Extent}

-- offset and length of section k, as 16 bits hold them
pub record Placed (image : List ℕ) (k : ℕ) (e : Extent) : Type 0 where
  pub at_is : e.at ≡ offset image k
  pub bytes_is : e.bytes ≡ section_length image k
  pub at_small : e.at < 65536
  pub bytes_small : e.bytes < 65536

-- the directory as it stands in the bytes
pub record Listed (image : List ℕ) (d : Directory) : Type 0 where
  pub nodes : Placed image 0 d.nodes
  pub edges : Placed image 1 d.edges
  pub labels : Placed image 2 d.labels
  pub properties : Placed image 3 d.properties

-- sums of two of the numbers fit
pub record Small (d : Directory) : Type 0 where
  pub nodes : d.nodes.at + d.nodes.bytes < 131072
  pub edges : d.edges.at + d.edges.bytes < 131072
  pub labels : d.labels.at + d.labels.bytes < 131072
  pub properties : d.properties.at + d.properties.bytes < 131072

-- each section begins where the one before ends, and the last ends with the image
abbrev pub meets : Directory → ℕ → Bool
meets d length = eqb d.nodes.at 16 && (eqb d.edges.at (d.nodes.at + d.nodes.bytes) && (eqb d.labels.at (d.edges.at + d.edges.bytes)
    && (eqb d.properties.at (d.labels.at + d.labels.bytes) && eqb length (d.properties.at + d.properties.bytes))))

abbrev pub whole : Directory → Bool
whole d = eqb (d.nodes.bytes % 2) 0 && (eqb (d.edges.bytes % 6) 0 && (eqb (d.labels.bytes % 4) 0 && eqb (d.properties.bytes % 6) 0))
