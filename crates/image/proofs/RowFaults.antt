-- What each way through the test of a row gives.
use mathlib.Core.Path.{◌≡◌, refl, ◌∙◌}
use mathlib.Core.List.{List}
use mathlib.Core.Bool.{Bool, true, false, not}
use Prim.Native.Nat.{ℕ, ◌+◌, ◌-◌, ◌*◌, ◌<◌, ◌≤◌}
use lib.Dec.{leb, ltb}
use borrow.Author.Tests.{ne_eqb, lt-ltb, le-ltb}
use Rattle.meaning.specs.Image.{number, node_cell_lem, edge_cell_lem, label_cell_lem, property_cell_lem, pair_less_lem, bad_node_lem, bad_edge_lem, bad_label_lem, bad_property_lem}
use Rattle.image.specs.declared.sections.Sections.{Sections}
use Rattle.image.specs.declared.lowest.Section.{Section}
use Rattle.image.specs.Sections.{Laid}
use Rattle.image.specs.Faults.{bad_row_lem}
use Rattle.image.proofs.Tests.{not_less}
use Rattle.image.proofs.Order.{first_rises, later_rises}

-- ------------------------------------------------------------------ cells
module _ (image : List ℕ) (s : Sections) (l : Laid image s) (r i j : ℕ) where
  pub is_edge_cell : r ≡ number image (s.edges.at + (6 * i + 2 * j)) → r ≡ edge_cell_lem image i j
  unfolding edge_cell_lem
  is_edge_cell e = e ∙ rw l.edges_at

  pub is_label_cell : r ≡ number image (s.labels.at + (4 * i + 2 * j)) → r ≡ label_cell_lem image i j
  unfolding label_cell_lem
  is_label_cell e = e ∙ rw l.labels_at

  pub is_property_cell : r ≡ number image (s.properties.at + (6 * i + 2 * j)) → r ≡ property_cell_lem image i j
  unfolding property_cell_lem
  is_property_cell e = e ∙ rw l.properties_at

pub is_node_cell : (image : List ℕ) (s : Sections) (l : Laid image s) (r i : ℕ) → r ≡ number image (s.nodes.at + 2 * i) → r ≡ node_cell_lem image i
unfolding node_cell_lem
is_node_cell image s l r i e = e ∙ rw l.nodes_at

-- ------------------------------------------------------------------ nodes
module _ (image : List ℕ) (i : ℕ) where
  pub node_first : i ≡ 0 → false ≡ bad_node_lem image i
  unfolding bad_node_lem
  node_first h = rw (first_rises (λ j. ltb (node_cell_lem image j) (node_cell_lem image i)) i h)

  pub node_later : (x y : ℕ) → (i ≡ 0 → ⊥) → x ≡ node_cell_lem image i → y ≡ node_cell_lem image (i - 1) → leb x y ≡ bad_node_lem image i
  unfolding bad_node_lem
  node_later x y h e f = rw (later_rises (λ j. ltb (node_cell_lem image j) (node_cell_lem image i)) i h, e, f) (not_less (node_cell_lem image i) (node_cell_lem image (i - 1)))

-- ------------------------------------------------------------------ edges
module _ (image : List ℕ) (s : Sections) (l : Laid image s) (i f g d : ℕ) (ef : f ≡ edge_cell_lem image i 0) (eg : g ≡ edge_cell_lem image i 1) (ed : d ≡ edge_cell_lem image i 2) where
  pub first_end_out : s.nodes.count ≤ f → true ≡ bad_edge_lem image i
  unfolding bad_edge_lem
  first_end_out h = rw (← ef, ← l.nodes, le-ltb f s.nodes.count h)

  pub second_end_out : f < s.nodes.count → s.nodes.count ≤ g → true ≡ bad_edge_lem image i
  unfolding bad_edge_lem
  second_end_out h k = rw (← ef, ← eg, ← l.nodes, lt-ltb f s.nodes.count h, le-ltb g s.nodes.count k)

  pub directed : f < s.nodes.count → g < s.nodes.count → d ≡ 1 → false ≡ bad_edge_lem image i
  unfolding bad_edge_lem
  directed h k e = rw (← ef, ← eg, ← ed, ← l.nodes, lt-ltb f s.nodes.count h, lt-ltb g s.nodes.count k, e)

  pub no_direction : f < s.nodes.count → g < s.nodes.count → (d ≡ 1 → ⊥) → (d ≡ 0 → ⊥) → true ≡ bad_edge_lem image i
  unfolding bad_edge_lem
  no_direction h k e z = rw (← ef, ← eg, ← ed, ← l.nodes, lt-ltb f s.nodes.count h, lt-ltb g s.nodes.count k, ne_eqb d 1 e, ne_eqb d 0 z)

  pub undirected : f < s.nodes.count → g < s.nodes.count → d ≡ 0 → ltb g f ≡ bad_edge_lem image i
  unfolding bad_edge_lem
  undirected h k z = rw (← ef, ← eg, ← ed, ← l.nodes, lt-ltb f s.nodes.count h, lt-ltb g s.nodes.count k, z, not_less f g) (twice (ltb g f))
    where
      twice : (x : Bool) → x ≡ not (not x)
      twice true = refl
      twice false = refl

-- ------------------------------------------------------------------ labels
module _ (image : List ℕ) (s : Sections) (l : Laid image s) (i e t : ℕ) (ee : e ≡ label_cell_lem image i 0) (et : t ≡ label_cell_lem image i 1) where
  above : ℕ → Bool
  above j = pair_less_lem (label_cell_lem image j 0) (label_cell_lem image j 1) (label_cell_lem image i 0) (label_cell_lem image i 1)

  pub label_out : s.nodes.count + s.edges.count ≤ e → true ≡ bad_label_lem image i
  unfolding bad_label_lem
  label_out h = rw (← ee, ← l.nodes, ← l.edges, le-ltb e (s.nodes.count + s.edges.count) h)

  pub no_label : e < s.nodes.count + s.edges.count → t ≡ 0 → true ≡ bad_label_lem image i
  unfolding bad_label_lem
  no_label h z = rw (← ee, ← et, ← l.nodes, ← l.edges, lt-ltb e (s.nodes.count + s.edges.count) h, z)

  pub label_first : e < s.nodes.count + s.edges.count → (t ≡ 0 → ⊥) → i ≡ 0 → false ≡ bad_label_lem image i
  unfolding bad_label_lem above
  label_first h z k = rw (first_rises above i k, ← ee, ← et, ← l.nodes, ← l.edges, lt-ltb e (s.nodes.count + s.edges.count) h, ne_eqb t 0 z)

  pub label_later : e < s.nodes.count + s.edges.count → (t ≡ 0 → ⊥) → (i ≡ 0 → ⊥) → (p q : ℕ) → p ≡ label_cell_lem image (i - 1) 0 → q ≡ label_cell_lem image (i - 1) 1
      → (r : Bool) → r ≡ pair_less_lem p q e t → not r ≡ bad_label_lem image i
  unfolding bad_label_lem above
  label_later h z k p q ep eq r er = rw (later_rises above i k, ← ee, ← et, ← ep, ← eq, ← l.nodes, ← l.edges, lt-ltb e (s.nodes.count + s.edges.count) h, ne_eqb t 0 z, er)

-- ------------------------------------------------------------------ properties
module _ (image : List ℕ) (s : Sections) (l : Laid image s) (i e t : ℕ) (ee : e ≡ property_cell_lem image i 0) (et : t ≡ property_cell_lem image i 1) where
  higher : ℕ → Bool
  higher j = pair_less_lem (property_cell_lem image j 0) (property_cell_lem image j 1) (property_cell_lem image i 0) (property_cell_lem image i 1)

  pub property_out : s.nodes.count + s.edges.count ≤ e → true ≡ bad_property_lem image i
  unfolding bad_property_lem
  property_out h = rw (← ee, ← l.nodes, ← l.edges, le-ltb e (s.nodes.count + s.edges.count) h)

  pub property_first : e < s.nodes.count + s.edges.count → i ≡ 0 → false ≡ bad_property_lem image i
  unfolding bad_property_lem higher
  property_first h k = rw (first_rises higher i k, ← ee, ← l.nodes, ← l.edges, lt-ltb e (s.nodes.count + s.edges.count) h)

  pub property_later : e < s.nodes.count + s.edges.count → (i ≡ 0 → ⊥) → (p q : ℕ) → p ≡ property_cell_lem image (i - 1) 0 → q ≡ property_cell_lem image (i - 1) 1
      → (r : Bool) → r ≡ pair_less_lem p q e t → not r ≡ bad_property_lem image i
  unfolding bad_property_lem higher
  property_later h k p q ep eq r er = rw (later_rises higher i k, ← ee, ← et, ← ep, ← eq, ← l.nodes, ← l.edges, lt-ltb e (s.nodes.count + s.edges.count) h, er)

-- ------------------------------------------------------------------ any section
pub bad_row_of : (x y : Section) (image : List ℕ) (i : ℕ) (r : Bool) → x ≡ y → r ≡ bad_row_lem y image i → r ≡ bad_row_lem x image i
bad_row_of x y image i r e h = rw e h
