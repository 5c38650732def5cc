-- The directory and the sections, from the numbers that were read.
use mathlib.Core.Path.{◌≡◌, refl, ◌∙◌}
use mathlib.Core.List.{List}
use mathlib.Core.Bool.{Bool, true, false, ◌&&◌}
use Prim.Native.Nat.{ℕ, ◌+◌, ◌/◌}
use native.Mathlib.Omega.{arith}
use lib.Dec.{eqb}
use lib.ListN.{length}
use Rattle.meaning.specs.Image.{node_count, edge_count, label_count, property_count, good_directory_lem, too_many}
use Rattle.image.specs.declared.directory.Directory.{Directory}
use Rattle.image.specs.declared.sections.Sections.{Sections}
use Rattle.image.specs.Directory.{Listed, Small, meets, whole}
use Rattle.image.specs.Sections.{Laid, crowded}

pub sums_fit : (image : List ℕ) (d : Directory) → Listed image d → Small d
sums_fit image d l = record { nodes = omega (arith, l.nodes); edges = omega (arith, l.edges); labels = omega (arith, l.labels); properties = omega (arith, l.properties) }

pub laid : (image : List ℕ) (d : Directory) → Listed image d → Laid image (record {
  nodes = record { at = d.nodes.at; count = d.nodes.bytes / 2 };
  edges = record { at = d.edges.at; count = d.edges.bytes / 6 };
  labels = record { at = d.labels.at; count = d.labels.bytes / 4 };
  properties = record { at = d.properties.at; count = d.properties.bytes / 6 };
})
unfolding node_count edge_count label_count property_count
laid image d l = record {
  nodes = rw l.nodes.bytes_is;
  edges = rw l.edges.bytes_is;
  labels = rw l.labels.bytes_is;
  properties = rw l.properties.bytes_is;
  nodes_at = l.nodes.at_is;
  edges_at = l.edges.at_is;
  labels_at = l.labels.at_is;
  properties_at = l.properties.at_is;
  nodes_few = omega (arith, l.nodes);
  edges_few = omega (arith, l.edges);
  labels_few = omega (arith, l.labels);
  properties_few = omega (arith, l.properties);
  nodes_near = l.nodes.at_small;
  edges_near = l.edges.at_small;
  labels_near = l.labels.at_small;
  properties_near = l.properties.at_small;
}

and_assoc : (a b c d e r : Bool) → ((a && (b && (c && (d && e)))) && r) ≡ (a && (b && (c && (d && (e && r)))))
and_assoc false b c d e r = refl
and_assoc true false c d e r = refl
and_assoc true true false d e r = refl
and_assoc true true true false e r = refl
and_assoc true true true true e r = refl

module _ (image : List ℕ) (d : Directory) (l : Listed image d) where
  directory_is : (meets d (length image) && whole d) ≡ good_directory_lem image
  unfolding good_directory_lem
  directory_is =
      and_assoc (eqb d.nodes.at 16) (eqb d.edges.at (d.nodes.at + d.nodes.bytes)) (eqb d.labels.at (d.edges.at + d.edges.bytes))
      (eqb d.properties.at (d.labels.at + d.labels.bytes)) (eqb (length image) (d.properties.at + d.properties.bytes)) (whole d)
      ∙ rw (l.nodes.at_is, l.nodes.bytes_is, l.edges.at_is, l.edges.bytes_is, l.labels.at_is, l.labels.bytes_is, l.properties.at_is, l.properties.bytes_is)

  pub meeting : (m r : Bool) → m ≡ meets d (length image) → m ≡ true → r ≡ whole d → r ≡ good_directory_lem image
  meeting m r e t f = rw (f, ← directory_is, ← e, t)

  pub not_meeting : (m : Bool) → m ≡ meets d (length image) → m ≡ false → m ≡ good_directory_lem image
  not_meeting m e t = t ∙ rw (← directory_is, ← e, t)

pub crowded_is : (image : List ℕ) (s : Sections) → Laid image s → crowded s ≡ too_many image
unfolding too_many
crowded_is image s l = rw (l.nodes, l.edges, l.labels, l.properties)
