-- What is asked of the words of `graph` and `plan`: `fill_graph` and `fill_part` grant it.
use Rattle.std.specs.Prelude.{◌≡◌, List, Bool, true, false, ℕ, ◌+◌, ◌<◌, ◌≤◌, get_or, None, Option, Some}
use Rattle.std.proofs.Math.Option.{none}
use Rattle.meaning.specs.Table.{pattern_fault}
use Rattle.compiled.specs.Words.{edge_in_lem, edges_in_lem, labels_in, nodes_in_lem, pair_of, properties_in}
use Rattle.compiled.specs.Parts.{Tabled, table_in}

-- the pairs of the n words from `at` on rise
pub record Rises (at n : ℕ) (g : List ℕ) : Type 0 where
  pub is : (i j : ℕ) → i < j → j < n → pair_of (get_or g (at + i) 0) < pair_of (get_or g (at + j) 0)

-- of n rows just the first r pass the test
pub record LowerBound (p : ℕ → Bool) (n r : ℕ) : Type 0 where
  pub within : r ≤ n
  pub before : (i : ℕ) → i < r → p i ≡ true
  pub after : (i : ℕ) → r ≤ i → i < n → p i ≡ false

-- r is the word that has the pair, of the n words from `at` on
pub record FoundBy (at n : ℕ) (g : List ℕ) (pair : ℕ) (r : Option ℕ) : Type 0 where
  pub none_has : r ≡ None → (i : ℕ) → i < n → pair_of (get_or g (at + i) 0) ≡ pair → ⊥
  pub one_has : (w : ℕ) → r ≡ Some w → (i : ℕ) × (i < n) × (w ≡ get_or g (at + i) 0) × (pair_of w ≡ pair)

-- the graph is within the limits, its edges end at nodes, and its words rise
pub record Lawful (g : List ℕ) : Type 0 where
  pub few_nodes : nodes_in_lem g ≤ 200
  pub few_edges : edges_in_lem g ≤ 200
  pub few_labels : labels_in g ≤ 800
  pub few_properties : properties_in g ≤ 2000
  pub first_in : (e : ℕ) → e < edges_in_lem g → (edge_in_lem g e).first < nodes_in_lem g
  pub second_in : (e : ℕ) → e < edges_in_lem g → (edge_in_lem g e).second < nodes_in_lem g
  pub labels_rise : Rises 208 (labels_in g) g
  pub properties_rise : Rises 1008 (properties_in g) g

-- all that anything above asks of the two
pub record Sound (g p : List ℕ) : Type 0 where
  pub lawful : Lawful g
  pub tabled : Tabled p
  pub accepted : pattern_fault (table_in p) ≡ none
