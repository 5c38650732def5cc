-- The ways out of the makers of words.
use mathlib.Core.Path.{◌≡◌, ◌∙◌}
use mathlib.Core.List.{List}
use mathlib.Core.Bool.{Bool, false, not, ◌&&◌}
use Prim.Native.Nat.{ℕ, ◌*◌, ◌+◌, ◌/◌, ◌<◌, ◌≤◌}
use native.Mathlib.Omega.{arith}
use lib.Dec.{eqb, ltb}
use lib.ListN.{get_or, length}
use borrow.Author.Tests.{ltb-true}
use Rattle.meaning.specs.Graph.{EdgeRow}
use Rattle.meaning.specs.Image.{bad_label_lem, bad_property_lem, edge_cell_lem, edge_count, edge_row, label_cell_lem, node_count, pair_less_lem, property_cell_lem, rises}
use Rattle.meaning.proofs.ImageRead.{image_read}
use Rattle.meaning.proofs.Logic.{and_l, not_false}
use Rattle.image.specs.Sections.{Checked}
use Rattle.image.specs.declared.sections.Sections.{Sections}
use Rattle.image.specs.declared.lowest.Section.TheVariants.{Labels, Properties}
use Rattle.image.proofs.Sound.{sound_row}
use Rattle.compiled.specs.Copies.{EdgeWord, TableWord}

made : {a a' b b' : ℕ} {c c' : Bool} → a ≡ a' → b ≡ b' → c ≡ c' → ◌≡◌ {A = EdgeRow} (record { first = a; second = b; directed = c }) (record { first = a'; second = b'; directed = c' })
made p q r = cc

module _ (image : List ℕ) (i x y z p q r : ℕ) (bx : p < 65536) (by : q < 65536) (bz : r < 65536) where
  pub edge_word_is : x ≡ edge_cell_lem image i 0 → p ≡ x → y ≡ edge_cell_lem image i 1 → q ≡ y → z ≡ edge_cell_lem image i 2 → r ≡ z → EdgeWord image i (p + 65536 * q + 4294967296 * r)
  unfolding edge_row
  edge_word_is e₀ f₀ e₁ f₁ e₂ f₂ = record {
    is = let d : (p + 65536 * q + 4294967296 * r) / 4294967296 ≡ edge_cell_lem image i 2 = omega arith in made (omega arith) (omega arith) (rw d);
  }

module _ (image : List ℕ) (s : Sections) (a : Checked image s) (i : ℕ) where
  few : node_count image + edge_count image ≤ 400
  few = omega (arith, (image_read image a.sound).few_nodes, (image_read image a.sound).few_edges)

  pub label_owner_law : i < s.labels.count → (x r : ℕ) → x ≡ label_cell_lem image i 0 → r ≡ x → r < 400
  unfolding bad_label_lem
  label_owner_law h x r e f =
      let bad : bad_label_lem image i ≡ false = sound_row image a.sound Labels i (omega (arith, a.laid.labels)) in
      let one : Bool = ltb (label_cell_lem image i 0) (node_count image + edge_count image) in
      let two : Bool = not (eqb (label_cell_lem image i 1) 0) in
      let three : Bool = rises i (λ j. pair_less_lem (label_cell_lem image j 0) (label_cell_lem image j 1) (label_cell_lem image i 0) (label_cell_lem image i 1)) in
      omega (arith, few, ltb-true (label_cell_lem image i 0) (node_count image + edge_count image) (and_l one two (and_l (one && two) three (not_false ((one && two) && three) bad))))

  pub property_owner_law : i < s.properties.count → (x r : ℕ) → x ≡ property_cell_lem image i 0 → r ≡ x → r < 400
  unfolding bad_property_lem
  property_owner_law h x r e f =
      let bad : bad_property_lem image i ≡ false = sound_row image a.sound Properties i (omega (arith, a.laid.properties)) in
      let one : Bool = ltb (property_cell_lem image i 0) (node_count image + edge_count image) in
      let two : Bool = rises i (λ j. pair_less_lem (property_cell_lem image j 0) (property_cell_lem image j 1) (property_cell_lem image i 0) (property_cell_lem image i 1)) in
      omega (arith, few, ltb-true (property_cell_lem image i 0) (node_count image + edge_count image) (and_l one two (not_false (one && two) bad)))

-- the words of every row of a section lie in the graph's
module _ (image : List ℕ) (s : Sections) (a : Checked image s) (g : List ℕ) (room : length g ≡ 3008) where
  pub edges_room : 8 + s.edges.count ≤ length g
  edges_room = omega (arith, a.laid.edges, (image_read image a.sound).few_edges)

  pub labels_room : 208 + s.labels.count ≤ length g
  labels_room = omega (arith, a.laid.labels, (image_read image a.sound).few_labels)

  pub properties_room : 1008 + s.properties.count ≤ length g
  properties_room = omega (arith, a.laid.properties, (image_read image a.sound).few_properties)

pub table_word_is : (pattern : List ℕ) (i w x : ℕ) → x ≡ get_or pattern i 0 → w ≡ x → w < 65536 → TableWord pattern i w
table_word_is pattern i w x e f h = record { is = f ∙ e; small = h }
