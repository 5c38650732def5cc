-- The ends of an edge row are nodes.
use mathlib.Core.Path.{◌≡◌, ap, ◌∙◌}
use mathlib.Core.List.{List}
use mathlib.Core.Option.{none, some}
use Prim.Native.Nat.{ℕ, ◌<◌}
use native.Mathlib.Omega.{arith}
use lib.ListN.{get_elem?}
use Rattle.meaning.specs.Image.{node_count, edge_count, edge_row, graph_of, image_fault}
use Rattle.meaning.proofs.ImageRead.{image_read}
use Rattle.meaning.proofs.Lists.{at_map_up}

edge_is : (image : List ℕ) (e : ℕ) → e < edge_count image → get_elem? (graph_of image).edges e ≡ some (edge_row image e)
unfolding graph_of
edge_is image e h = at_map_up (edge_row image) (edge_count image) 0 e h ∙ ap (λ (k : ℕ). some (edge_row image k)) (omega arith)

pub ends_are_nodes : (image : List ℕ) (e : ℕ) → image_fault image ≡ none → e < edge_count image → ((edge_row image e).first < node_count image) × ((edge_row image e).second < node_count image)
unfolding graph_of
ends_are_nodes image e sound h = (image_read image sound).valid e (edge_row image e) (edge_is image e h)
