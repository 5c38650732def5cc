-- Proposition 9, first half: an answer's path is a path of the graph.
use mathlib.Core.Path.{◌∙◌, ◌≡◌, ap, refl, sym}
use mathlib.Core.List.{List, [], ◌∷◌, map}
use mathlib.Core.Option.{Option, none, some}
use mathlib.Core.Bool.{◌&&◌, ◌||◌, not, true}
use Prim.Native.Nat.{◌<◌, suc, zero, ℕ}
use native.Mathlib.Omega.{arith}
use lib.Dec.{eqb}
use lib.ListN.{get_elem?, length}
use borrow.Author.Tests.{eqb-true}
use Rattle.meaning.proofs.Logic.{all_map, and_l, and_r, either, no_false, or_cases, or_l, or_r}
use Rattle.meaning.proofs.Opened.{opened}
use Rattle.meaning.specs.Assignment.{Assignment, Factor, path_of_lem}
use Rattle.meaning.specs.Basics.{All}
use Rattle.meaning.specs.Graph.{Direction, EdgeRow, Graph, InGraph, Valid, Walk, ◌·◌, backward, forward, goes, linked, row_goes, src, step, stop, tgt, undirected}
use Rattle.meaning.specs.Meaning.{Meaning, Product}
use Rattle.meaning.specs.Pattern.{Pattern, concatenation, conditioned, edge, node, repetition, union}

getElem?-some : {A : Type 0} (l : List A) (i : ℕ) (a : A) → get_elem? l i ≡ some a → i < length l
unfolding opened
getElem?-some [] i a e = let z : ◌≡◌ {A = ℕ} 0 1 = cc in absurd (omega arith)
getElem?-some (x ∷ xs) zero a e = omega arith
getElem?-some (x ∷ xs) (suc i) a e = let h : i < length xs = getElem?-some xs i a e in omega arith

-- the edge and both its ends are there
pub record Ends (G : Graph) (e u v : ℕ) : Type 0 where
  pub at : e < length G.edges
  pub low : u < G.nodes
  pub high : v < G.nodes

ends : (r : EdgeRow) (u v n : ℕ) → (r.first < n) × (r.second < n) → (eqb r.first u && eqb r.second v) ≡ true → (u < n) × (v < n)
unfolding opened
ends r u v n b h =
    let p : r.first ≡ u = eqb-true r.first u (and_l (eqb r.first u) (eqb r.second v) h) in
    let q : r.second ≡ v = eqb-true r.second v (and_r (eqb r.first u) (eqb r.second v) h) in
    (omega (arith, b.0), omega (arith, b.1))

row_ends : (d : Direction) (r : EdgeRow) (u v n : ℕ) → (r.first < n) × (r.second < n) → row_goes d (some r) u v ≡ true → (u < n) × (v < n)
unfolding opened
row_ends forward r u v n b h = ends r u v n b (and_r r.directed (eqb r.first u && eqb r.second v) h)
row_ends backward r u v n b h = let k = ends r v u n b (and_r r.directed (eqb r.first v && eqb r.second u) h) in (k.1, k.0)
row_ends undirected r u v n b h =
    either (or_cases (eqb r.first u && eqb r.second v) (eqb r.first v && eqb r.second u) (and_r (not r.directed) ((eqb r.first u && eqb r.second v) || (eqb r.first v && eqb r.second u)) h))
    (ends r u v n b) (λ q. let k = ends r v u n b q in (k.1, k.0))

pub goes_linked : (G : Graph) (d : Direction) (e u v : ℕ) → goes G d e u v ≡ true → linked G e u v ≡ true
unfolding opened
goes_linked G forward e u v h = or_l (goes G forward e u v) (goes G backward e u v || goes G undirected e u v) h
goes_linked G backward e u v h = or_r (goes G forward e u v) (goes G backward e u v || goes G undirected e u v) (or_l (goes G backward e u v) (goes G undirected e u v) h)
goes_linked G undirected e u v h = or_r (goes G forward e u v) (goes G backward e u v || goes G undirected e u v) (or_r (goes G backward e u v) (goes G undirected e u v) h)

pub src_append : (p q : Walk) → tgt p ≡ src q → src (p · q) ≡ src p
unfolding opened
src_append (stop u) q h = sym h
src_append (step u e p) q h = refl

module _ (G : Graph) (valid : Valid G) where
  pub goes_found : (d : Direction) (e u v : ℕ) → goes G d e u v ≡ true → Ends G e u v
  unfolding opened
  goes_found d e u v h = go (get_elem? G.edges e) refl h
    where
      go : (o : Option EdgeRow) → get_elem? G.edges e ≡ o → row_goes d o u v ≡ true → Ends G e u v
      go none q h = no_false h
      go (some r) q h = let k = row_ends d r u v G.nodes (valid e r q) h in record { at = getElem?-some G.edges e r q; low = k.0; high = k.1 }

  in_append : (p q : Walk) → InGraph G p → InGraph G q → tgt p ≡ src q → InGraph G (p · q)
  unfolding opened
  in_append (stop u) q h k e = k
  in_append (step u f p) q h k e = (h.0, h.1, ap (linked G f u) (src_append p q e) ∙ h.2, in_append p q h.3 k e)

  in_product : (fs : List Factor) (p : Walk) → All (λ f. InGraph G f.0) fs → Product G (map path_of_lem fs) p → InGraph G p
  unfolding opened
  in_product [] p a h = rw h.2 h.1
  in_product (f ∷ fs) p a h = rw h.3 (in_append f.0 h.0 a.0 (in_product fs h.0 a.1 h.1) h.2)

  pub in_graph : (π : Pattern) (p : Walk) (μ : Assignment) → Meaning G π p μ → InGraph G p
  unfolding opened
  in_graph (node x l) p μ h = rw h.path_is h.is_node
  in_graph (edge d x l) p μ h = let k = goes_found d h.e h.u₁ h.u₂ h.connects in rw h.path_is (k.low, k.at, goes_linked G d h.e h.u₁ h.u₂ h.connects, k.high)
  in_graph (union a b) p μ h = either h.either (in_graph a p h.ν) (in_graph b p h.ν)
  in_graph (concatenation a b) p μ h = rw h.path_is (in_append h.p₁ h.p₂ (in_graph a h.p₁ h.μ₁ h.first) (in_graph b h.p₂ h.μ₂ h.second) h.concatenate)
  in_graph (conditioned a θ) p μ h = in_graph a p μ h.answer
  in_graph (repetition a n m) p μ h = in_product h.factors p (all_map (λ f k. in_graph a f.0 f.1 k) h.factors h.answers) h.path_is
