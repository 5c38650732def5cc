-- 000, Section 2: property graphs and paths, over the numbers of an image.
use Rattle.std.specs.Prelude.{◌≡◌, List, Bool, true, false, not, ◌&&◌, ◌||◌, ℕ, suc, ◌<◌, eqb, length}
use Rattle.std.proofs.Math.Option.{Option, none, some}
use Rattle.std.proofs.Math.ListN.{get_elem?}

infixl 70 ◌·◌
-- nodes and edges are drawn from disjoint sets: node 5 and edge 5 are different things
pub data Element : Type 0 where
  the_node the_edge : ℕ → Element
  deriving Discrete as Element-discrete

-- an edge: directed from first to second, or undirected between the two
pub record EdgeRow : Type 0 where
  pub first : ℕ
  pub second : ℕ
  pub directed : Bool

-- nodes count from 0, edges in row order; labels and properties are of nodes and edges alike
pub record Graph : Type 0 where
  pub nodes : ℕ
  pub edges : List EdgeRow
  pub label : Element → ℕ → Bool
  pub property : Element → ℕ → Option ℕ

-- how a match walks an edge
pub data Direction : Type 0 where
  forward backward undirected : Direction

-- the edge leads from u to v in direction d
unfoldable pub row_goes : Direction → Option EdgeRow → ℕ → ℕ → Bool
row_goes d none u v = false
row_goes forward (some r) u v = r.directed && (eqb r.first u && eqb r.second v)
row_goes backward (some r) u v = r.directed && (eqb r.first v && eqb r.second u)
row_goes undirected (some r) u v = not r.directed && ((eqb r.first u && eqb r.second v) || (eqb r.first v && eqb r.second u))

unfoldable pub goes : Graph → Direction → ℕ → ℕ → ℕ → Bool
goes G d e u v = row_goes d (get_elem? G.edges e) u v

-- the element has the label, where one is asked for
unfoldable pub labelled : Graph → Element → Option ℕ → Bool
labelled G x none = true
labelled G x (some l) = G.label x l

-- every edge ends at nodes
abbrev pub Valid : Graph → Type 0
Valid G = (e : ℕ) (r : EdgeRow) → get_elem? G.edges e ≡ some r → (r.first < G.nodes) × (r.second < G.nodes)

-- ------------------------------------------------------------------ paths
-- 01's path; 000 (footnote 2) notes that graph theory calls it a walk. `stop u` is path(u), `step u e p` is u, e and then p
pub data Walk : Type 0 where
  stop : ℕ → Walk
  step : ℕ → ℕ → Walk → Walk
  deriving Discrete as Walk-discrete

unfoldable pub src : Walk → ℕ
src (stop u) = u
src (step u e p) = u

unfoldable pub tgt : Walk → ℕ
tgt (stop u) = u
tgt (step u e p) = tgt p

unfoldable pub len : Walk → ℕ
len (stop u) = 0
len (step u e p) = suc (len p)

-- p · q, for paths that concatenate: tgt p ≡ src q
unfoldable pub ◌·◌ : Walk → Walk → Walk
◌·◌ (stop u) q = q
◌·◌ (step u e p) q = step u e (p · q)

-- e connects u and v, as a forward, backward or undirected edge
unfoldable pub linked : Graph → ℕ → ℕ → ℕ → Bool
linked G e u v = goes G forward e u v || (goes G backward e u v || goes G undirected e u v)

-- p ∈ Paths(G)
abbrev pub InGraph : Graph → Walk → Type 0
InGraph G (stop u) = u < G.nodes
InGraph G (step u e p) = (u < G.nodes) × (e < length G.edges) × (linked G e u (src p) ≡ true) × InGraph G p
