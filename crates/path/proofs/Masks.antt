-- The masks of a path, step by step; and what a test of them tells of the restrictor.
use mathlib.Core.Path.{◌∙◌, ◌≡◌, ap, ap₂, sym}
use mathlib.Core.Bool.{Bool, ◌||◌, false, not, or_comm, true}
use Prim.Native.Nat.{◌<◌, ℕ}
use native.Mathlib.Omega.{arith}
use lib.Dec.{eqb}
use borrow.Author.Tests.{ne_eqb}
use Rattle.bits.proofs.Cases.{by_ltb}
use Rattle.bits.proofs.Laws.{at, only_in, only_out}
use Rattle.bits.specs.declared.Set.{Set}
use Rattle.bits.specs.Sets.{insert, none, only, set_of}
use Rattle.meaning.proofs.Logic.{no_true}
use Rattle.meaning.proofs.Opened.{opened}
use Rattle.meaning.specs.Answer.{Restricted, fresh, on_edge_lem, on_node_lem}
use Rattle.meaning.specs.Graph.{Walk, stop}
use Rattle.path.proofs.Restricted.{restricted_stepped}
use Rattle.path.proofs.Stepped.{edge_stepped, node_stepped}
use Rattle.path.specs.declared.base.Base.{Base}
use Rattle.path.specs.declared.base.Base.TheVariants.{Simple, Trail}
use Rattle.path.specs.declared.used.Used.{Used}
use Rattle.path.specs.Masks.{Allowed, EdgeTested, MasksGrown, Masked, NodeTested, base_of}
use Rattle.path.specs.Walks.{stepped}

-- below 256 the mask of one number is that number, also if it is not held
pub only_below : (k j : ℕ) → j < 256 → only 256 k j ≡ eqb j k
only_below k j h = by_ltb k 256 (only_in 256 k j) (λ o. only_out 256 k j o ∙ sym (ne_eqb j k (λ e. omega arith)))

-- ------------------------------------------------------------------ the ways through the code
pub masks_start : (u : ℕ) (a b : Set) → set_of a.w ≡ only 256 u → set_of b.w ≡ none → Masked (stop u) (record { nodes = a; edges = b })
unfolding opened
masks_start u a b x y = record { nodes_are = λ v h. at x v ∙ only_below u v h; edges_are = λ e h. at y e }

pub masks_stepped : (u : Used) (e v : ℕ) (a b : Set) → set_of a.w ≡ insert (set_of u.nodes.w) v → set_of b.w ≡ insert (set_of u.edges.w) e
    → MasksGrown u e v (record { nodes = a; edges = b })
masks_stepped u e v a b x y = record {
  is = λ q m. record {
    nodes_are = λ k h. at x k ∙ (ap₂ ◌||◌ (only_below v k h) (m.nodes_are k h) ∙ (or_comm (eqb k v) (on_node_lem k q) ∙ sym (node_stepped e v k q)));
    edges_are = λ k h. at y k ∙ (ap₂ ◌||◌ (only_below e k h) (m.edges_are k h) ∙ (or_comm (eqb k e) (on_edge_lem k q) ∙ sym (edge_stepped e v k q)));
  };
}

pub node_tested : (u : Used) (v : ℕ) (r : Bool) → r ≡ set_of u.nodes.w v → NodeTested u v r
node_tested u v r e = record { is = λ q m h. e ∙ m.nodes_are v h }

pub edge_tested : (u : Used) (e : ℕ) (r : Bool) → r ≡ set_of u.edges.w e → EdgeTested u e r
edge_tested u e r i = record { is = λ q m h. i ∙ m.edges_are e h }

module _ (u : Used) (b : Base) (e v : ℕ) (r : Bool) where
  pub allows_simple : b ≡ Simple → NodeTested u v r → Allowed u b e v (not r)
  unfolding fresh
  allows_simple s t = record { is = λ q m h i. rw s (ap not (t.is q m i)) }

  pub allows_trail : b ≡ Trail → EdgeTested u e r → Allowed u b e v (not r)
  unfolding fresh
  allows_trail s t = record { is = λ q m h i. rw s (ap not (t.is q m h)) }

-- ------------------------------------------------------------------ for the walk
module _ (u : Used) (q : Walk) (m : Masked q u) (e v : ℕ) where
  pub masked_stepped : (r : Used) → MasksGrown u e v r → Masked (stepped q e v) r
  masked_stepped r k = k.is q m

  module _ (b : Base) (r : Bool) (a : Allowed u b e v r) (he : e < 256) (hv : v < 256) where
    -- a step that is allowed keeps the restrictor; one that is not breaks it, and so does whatever follows
    pub allowed_keeps : r ≡ true → Restricted (base_of b) q → Restricted (base_of b) (stepped q e v)
    allowed_keeps y h = (restricted_stepped (base_of b) e v q).1 (h, sym (a.is q m he hv) ∙ y)

    pub refused_breaks : r ≡ false → Restricted (base_of b) (stepped q e v) → ⊥
    refused_breaks n h = no_true (sym ((restricted_stepped (base_of b) e v q).0 h).1 ∙ (sym (a.is q m he hv) ∙ n))
