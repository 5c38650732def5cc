-- For callers: the compiled graph's nodes and edges.
use mathlib.Core.Path.{◌≡◌, refl, ap, sym, ◌∙◌}
use mathlib.Core.List.{List, map}
use mathlib.Core.Option.{none, some}
use Prim.Native.Nat.{ℕ, zero, suc, ◌<◌, ◌≤◌}
use native.Mathlib.Omega.{arith}
use lib.ListN.{get_elem?, length}
use Rattle.meaning.specs.Basics.{up_from}
use Rattle.meaning.specs.Graph.{EdgeRow, Valid}
use Rattle.meaning.proofs.Lists.{at_map_up, length_map_up}
use Rattle.meaning.proofs.Logic.{no_some, some_inj}
use Rattle.compiled.specs.Words.{edge_in_lem, edges_in_lem, graph_in, nodes_in_lem}
use Rattle.compiled.specs.Sound.{Lawful}

past_map : (f : ℕ → EdgeRow) (n i e : ℕ) → n ≤ e → get_elem? (map f (up_from n i)) e ≡ none
unfolding up_from
past_map f zero i e h = refl
past_map f (suc n) i zero h = absurd (omega arith)
past_map f (suc n) i (suc e) h = past_map f n (suc i) e (omega arith)

in_map : (f : ℕ → EdgeRow) (n i e : ℕ) (r : EdgeRow) → get_elem? (map f (up_from n i)) e ≡ some r → e < n
unfolding up_from
in_map f zero i e r q = no_some (sym q)
in_map f (suc n) i zero r q = omega arith
in_map f (suc n) i (suc e) r q = omega (arith, in_map f n (suc i) e r q)

module _ (g : List ℕ) where
  pub nodes_are : (graph_in g).nodes ≡ nodes_in_lem g
  unfolding graph_in
  nodes_are = refl

  pub edges_are : length (graph_in g).edges ≡ edges_in_lem g
  unfolding graph_in
  edges_are = length_map_up (edge_in_lem g) (edges_in_lem g) 0

  pub edge_is : (e : ℕ) → e < edges_in_lem g → get_elem? (graph_in g).edges e ≡ some (edge_in_lem g e)
  unfolding graph_in
  edge_is e h = at_map_up (edge_in_lem g) (edges_in_lem g) 0 e h ∙ ap (λ (k : ℕ). some (edge_in_lem g k)) (omega arith)

  -- no number past the edges is an edge
  pub no_edge : (e : ℕ) → edges_in_lem g ≤ e → get_elem? (graph_in g).edges e ≡ none
  unfolding graph_in
  no_edge e h = past_map (edge_in_lem g) (edges_in_lem g) 0 e h

  pub valid : Lawful g → Valid (graph_in g)
  unfolding graph_in
  valid a e r q =
      let h : e < edges_in_lem g = in_map (edge_in_lem g) (edges_in_lem g) 0 e r q in
      let z : edge_in_lem g e ≡ r = some_inj (sym (edge_is e h) ∙ q) in
      (rw (← z) (a.first_in e h), rw (← z) (a.second_in e h))
