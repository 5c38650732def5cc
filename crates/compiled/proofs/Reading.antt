-- The ways out of the readers of single words.
use mathlib.Core.Path.{◌≡◌}
use mathlib.Core.List.{List}
use mathlib.Core.Bool.{Bool, true}
use Prim.Native.Nat.{ℕ, ◌*◌, ◌+◌, ◌%◌, ◌/◌}
use lib.Dec.{eqb}
use lib.ListN.{get_or}
use Rattle.meaning.specs.Graph as graph
use Rattle.meaning.specs.Graph.{Graph, labelled}
use Rattle.meaning.specs.Table.{unless}
use borrow.Author.Tests.{ne_eqb}
use Rattle.compiled.specs.Elements.{element_of}
use Rattle.compiled.specs.declared.ids.EdgeId.{EdgeId}
use Rattle.compiled.specs.declared.ids.NodeId.{NodeId}
use Rattle.compiled.specs.declared.ids.Element.{Element}
use Rattle.compiled.specs.declared.ids.Element.TheVariants.{Node, Edge}
use Rattle.compiled.specs.Words.{edge_in_lem, labels_in, nodes_in_lem, number_in, properties_in}
use Rattle.compiled.specs.Sound.{Lawful, Rises}

module _ (g : List ℕ) (e w : ℕ) (h : w ≡ get_or g (8 + e) 0) where
  pub first_is : w % 65536 ≡ (edge_in_lem g e).first
  unfolding edge_in_lem
  first_is = rw h

  pub second_is : w / 65536 % 65536 ≡ (edge_in_lem g e).second
  unfolding edge_in_lem
  second_is = rw h

  pub directed_is : eqb (w / 4294967296) 1 ≡ (edge_in_lem g e).directed
  unfolding edge_in_lem
  directed_is = rw h

module _ (g : List ℕ) (x : Element) (name a b : ℕ) (h : b ≡ name) where
  pub node_pair : (n : NodeId) → x ≡ Node n → a ≡ n.0 → a * 65536 + b ≡ number_in g (element_of x) * 65536 + name
  unfolding number_in
  node_pair n e k = rw (e, h, k)

  pub edge_pair : (n : EdgeId) (m : ℕ) → x ≡ Edge n → m ≡ nodes_in_lem g → a ≡ n.0 → (m + a) * 65536 + b ≡ number_in g (element_of x) * 65536 + name
  unfolding number_in
  edge_pair n m e q k = rw (e, h, k, q)

-- a label that may not be asked for
module _ (g : Graph) (y : graph.Element) (l : ℕ) where
  pub none_asked : l ≡ 0 → true ≡ labelled g y (unless 0 l)
  unfolding labelled unless
  none_asked e = rw e

  pub one_asked : (r : Bool) → (l ≡ 0 → ⊥) → r ≡ g.label y l → r ≡ labelled g y (unless 0 l)
  unfolding labelled unless
  one_asked r h e = rw (ne_eqb l 0 h) e

-- what the search is asked for
module _ (g : List ℕ) (a : Lawful g) (n : ℕ) where
  pub labels_risen : n ≡ labels_in g → Rises 208 n g
  labels_risen e = rw e a.labels_rise

  pub properties_risen : n ≡ properties_in g → Rises 1008 n g
  properties_risen e = rw e a.properties_rise
