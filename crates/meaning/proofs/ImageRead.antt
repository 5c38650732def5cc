-- What the reader grants: the graph of an accepted image is valid and within the limits.
use mathlib.Core.Path.{◌∙◌, ◌≡◌, ap, refl, sym}
use mathlib.Core.List.{List, map}
use mathlib.Core.Option.{none, some}
use mathlib.Core.Bool.{Bool, ◌&&◌, ◌||◌, false, not, true}
use Prim.Native.Nat.{◌+◌, ◌<◌, ◌≤◌, suc, zero, ℕ}
use native.Mathlib.Omega.{arith}
use lib.Dec.{eqb, leb, ltb}
use lib.ListN.{get_elem?, length}
use borrow.Author.Tests.{leb-true, ltb-true}
use Rattle.meaning.proofs.Causes.{at_row_none, first_none, lowest_none, whole_none}
use Rattle.meaning.proofs.Logic.{and_l, and_r, no_some, no_true, not_false, some_inj}
use Rattle.meaning.proofs.Opened.{opened}
use Rattle.meaning.specs.Basics.{Cause, at_row, first_of, lowest, up_from, rowless}
use Rattle.meaning.specs.Graph.{EdgeRow, Valid}
use Rattle.meaning.specs.Image.{bad_edge_lem, bad_label_lem, bad_node_lem, bad_property_lem, edge_cell_lem, edge_count, edge_row, good_directory_lem, graph_of, image_fault, label_count, node_count, property_count, row_fault, too_many}

at_map : (f : ℕ → EdgeRow) (n i e : ℕ) (r : EdgeRow) → get_elem? (map f (up_from n i)) e ≡ some r → (e < n) × (r ≡ f (i + e))
unfolding opened
at_map f zero i e r q = no_some (sym q)
at_map f (suc n) i zero r q = (omega arith, sym (some_inj q) ∙ ap f (omega arith))
at_map f (suc n) i (suc e) r q = let h = at_map f n (suc i) e r q in (omega (arith, h.0), h.1 ∙ ap f (omega arith))

-- what an accepted image is: a valid graph within the bounds of 01
pub record Read (image : List ℕ) : Type 0 where
  pub valid : Valid (graph_of image)
  pub few_nodes : node_count image ≤ 200
  pub few_edges : edge_count image ≤ 200
  pub few_labels : label_count image ≤ 800
  pub few_properties : property_count image ≤ 2000

good_edge : (image : List ℕ) (i : ℕ) → bad_edge_lem image i ≡ false → (edge_cell_lem image i 0 < node_count image) × (edge_cell_lem image i 1 < node_count image)
unfolding opened
good_edge image i e =
    let h = not_false ((ltb (edge_cell_lem image i 0) (node_count image) && ltb (edge_cell_lem image i 1) (node_count image)) && (eqb (edge_cell_lem image i 2) 1 || (eqb (edge_cell_lem image i 2) 0 && leb (edge_cell_lem image i 0) (edge_cell_lem image i 1)))) e in
    let k = and_l (ltb (edge_cell_lem image i 0) (node_count image) && ltb (edge_cell_lem image i 1) (node_count image)) (eqb (edge_cell_lem image i 2) 1 || (eqb (edge_cell_lem image i 2) 0 && leb (edge_cell_lem image i 0) (edge_cell_lem image i 1))) h in
    (ltb-true (edge_cell_lem image i 0) (node_count image) (and_l (ltb (edge_cell_lem image i 0) (node_count image)) (ltb (edge_cell_lem image i 1) (node_count image)) k), ltb-true (edge_cell_lem image i 1) (node_count image) (and_r (ltb (edge_cell_lem image i 0) (node_count image)) (ltb (edge_cell_lem image i 1) (node_count image)) k))

few : (a b c d : Bool) → not ((a && b) && (c && d)) ≡ false → (a ≡ true) × (b ≡ true) × (c ≡ true) × (d ≡ true)
unfolding opened
few true true true true e = (refl, refl, refl, refl)
few true true true false e = no_true e
few true true false d e = no_true e
few true false c d e = no_true e
few false b c d e = no_true e

pub image_read : (image : List ℕ) → image_fault image ≡ none → Read image
unfolding opened
image_read image e =
    let c₆ : Cause = first_of (at_row 6 (lowest (label_count image) 0 (bad_label_lem image))) (at_row 7 (lowest (property_count image) 0 (bad_property_lem image))) in
    let c₅ : Cause = first_of (at_row 5 (lowest (edge_count image) 0 (bad_edge_lem image))) c₆ in
    let one = first_none (rowless 1 (ltb (length image) 16)) (first_of (rowless 2 (not (good_directory_lem image))) (first_of (rowless 3 (too_many image)) (row_fault image))) e in
    let two = first_none (rowless 2 (not (good_directory_lem image))) (first_of (rowless 3 (too_many image)) (row_fault image)) one.1 in
    let three = first_none (rowless 3 (too_many image)) (row_fault image) two.1 in
    let four = first_none (at_row 4 (lowest (node_count image) 0 (bad_node_lem image))) c₅ three.1 in
    let five = first_none (at_row 5 (lowest (edge_count image) 0 (bad_edge_lem image))) c₆ four.1 in
    let edges = lowest_none (edge_count image) 0 (bad_edge_lem image) (at_row_none 5 (lowest (edge_count image) 0 (bad_edge_lem image)) five.0) in
    let f = few (leb (node_count image) 200) (leb (edge_count image) 200) (leb (label_count image) 800) (leb (property_count image) 2000) (whole_none 3 (too_many image) three.0) in
    record {
      valid = λ i r q. let h = at_map (edge_row image) (edge_count image) 0 i r q in let k = good_edge image (0 + i) (edges (0 + i) (omega arith) (omega (arith, h.0))) in rw h.1 k;
      few_nodes = leb-true (node_count image) 200 f.0;
      few_edges = leb-true (edge_count image) 200 f.1;
      few_labels = leb-true (label_count image) 800 f.2;
      few_properties = leb-true (property_count image) 2000 f.3;
    }
