-- The ways out of the restrictor's part: the words are the record of an answer of the pattern. Assumes nothing.
use mathlib.Core.Path.{◌≡◌, refl, sym, ap, ◌∙◌}
use mathlib.Core.Bool.{Bool, true, false, not}
use mathlib.Core.List.{List}
use Prim.Native.Nat.{ℕ, zero, suc, ◌+◌, ◌*◌, ◌<◌, ◌≤◌}
use native.Mathlib.Omega.{arith}
use lib.ListN.{drop, get_or, length}
use Rattle.bits.proofs.Cases.{by_eqb, by_ltb}
use Rattle.compiled.specs.Parts.{pattern_in_lem, restrictor_in}
use Rattle.compiled.specs.Sound.{Sound}
use Rattle.compiled.specs.Words.{graph_in, nodes_in_lem}
use Rattle.matcher.proofs.Opened.{matcher_opened}
use Rattle.matcher.proofs.Listed.{Judged}
use Rattle.matcher.proofs.Records.{judge_exact, path_in}
use Rattle.matcher.proofs.Subpaths.{subpath_len, subpath_src, subpath_tgt}
use Rattle.matcher.specs.Judge.{judge_words_lem, path_in_lem, unrepeated}
use Rattle.matcher.specs.Records.{edge_word_lem, node_word_lem}
use Rattle.matcher.specs.Search.{subpath}
use Rattle.meaning.proofs.InGraph.{in_graph}
use Rattle.meaning.proofs.Logic.{no_true, not_false, not_true}
use Rattle.meaning.specs.Answer.{Base, Least, Shortest}
use Rattle.meaning.specs.Basics.{eight}
use Rattle.meaning.specs.Graph.{Graph, InGraph, Walk, len, src, tgt}
use Rattle.path.specs.Masks.{base_of}
use Rattle.path.specs.declared.base.Base.{Base as BaseNamed}
use Rattle.plan.proofs.Granted.{encodable_in, fair_in}
use Rattle.promises.specs.Goals.{base_in}
use Rattle.search.specs.Joined.{Joins, NoneBelow}
use Rattle.judge.specs.Judging.{JudgedAnswer, NodesBelow, NoneShorter, RepeatsNothing, Small, Told, told}
use Rattle.judge.proofs.ListedWays.{given, says_no, says_yes, taken}
use Rattle.judge.proofs.ToldWords.{edge_word, node_word, path_told}

-- the edges of a path of the graph are edges of the graph
edges_in : (G : Graph) (N E : ℕ → ℕ) (i n : ℕ) → InGraph G (subpath N E i n) → (k : ℕ) → i ≤ k → k < i + n → E k < length G.edges
unfolding matcher_opened
edges_in G N E i zero h k l b = absurd (omega arith)
edges_in G N E i (suc n) h k l b = by_eqb i k (λ e. rw e at h.1) (λ ne. edges_in G N E (suc i) n h.3 k (omega arith) (omega arith))

module _ (graph plan rec : List ℕ) (last : ℕ) (s : Sound graph plan) (T : Told rec last) (below : NodesBelow rec last (nodes_in_lem graph)) where
  path_is : path_in_lem rec ≡ told rec last
  path_is = path_told rec last (omega (arith, T.whole)) T.first

  -- an answer's path is one of the graph
  path_in_graph : judge_words_lem (graph_in graph) eight (pattern_in_lem plan) rec ≡ true → InGraph (graph_in graph) (told rec last)
  path_in_graph j =
      let g = fair_in graph plan s in
      let c = (judge_exact (graph_in graph) (encodable_in graph plan s) (pattern_in_lem plan) g.accepted rec).0 j in
      let e : told rec last ≡ c.path = sym path_is ∙ (ap path_in_lem c.record_is ∙ path_in c.path c.assignment) in
      rw e (in_graph (graph_in graph) g.valid (pattern_in_lem plan) c.path c.assignment c.means)

  small : judge_words_lem (graph_in graph) eight (pattern_in_lem plan) rec ≡ true → Small rec last
  small j = record {
    node = λ i l. omega (arith, below.node i l, s.lawful.few_nodes);
    edge = λ i l.
        let k : edge_word_lem (drop 1 rec) i < length (graph_in graph).edges = edges_in (graph_in graph) (node_word_lem (drop 1 rec)) (edge_word_lem (drop 1 rec)) 0 last (path_in_graph j) i (omega arith) (omega arith) in
        omega (arith, edge_word rec i, (fair_in graph plan s).few_edges);
  }

  src_is : src (told rec last) ≡ get_or rec 1 0
  src_is = subpath_src (node_word_lem (drop 1 rec)) (edge_word_lem (drop 1 rec)) 0 last ∙ node_word rec 0

  tgt_is : tgt (told rec last) ≡ get_or rec (2 * last + 1) 0
  tgt_is = subpath_tgt (node_word_lem (drop 1 rec)) (edge_word_lem (drop 1 rec)) 0 last last (omega arith) ∙ node_word rec last

  len_is : len (told rec last) ≡ last
  len_is = subpath_len (node_word_lem (drop 1 rec)) (edge_word_lem (drop 1 rec)) 0 last

  least : NoneBelow (graph_in graph) (base_in plan) (pattern_in_lem plan) last (get_or rec 1 0) (get_or rec (2 * last + 1) 0) → Least (graph_in graph) (base_in plan) (pattern_in_lem plan) (told rec last)
  least h q ν a e f = by_ltb (len q) last
      (λ l. absurd (h (len q) l (record { path = q; assignment = ν; answer = a; source_is = e ∙ src_is; target_is = f ∙ tgt_is; length_is = refl })))
      (λ l. omega (arith, len_is))

  -- a shorter answer with the same ends
  beaten : (restrictor_in plan).shortest ≡ true → (m : ℕ) → m < last → Joins (graph_in graph) (base_in plan) (pattern_in_lem plan) m (get_or rec 1 0) (get_or rec (2 * last + 1) 0) → Judged (graph_in graph) (restrictor_in plan) (pattern_in_lem plan) rec → ⊥
  beaten z m b j h =
      let k : Shortest true (graph_in graph) (base_in plan) (pattern_in_lem plan) (told rec last) = rw (z, path_is) at h.shortest in
      omega (arith, k j.path j.assignment j.answer (j.source_is ∙ sym src_is) (j.target_is ∙ sym tgt_is), j.length_is, len_is)

  module _ (b : BaseNamed) (b_is : base_of b ≡ (restrictor_in plan).base) (r : Bool) (p : RepeatsNothing rec last b r) where
    -- what was tested is the restrictor's base
    base_test : judge_words_lem (graph_in graph) eight (pattern_in_lem plan) rec ≡ true → r ≡ unrepeated (base_in plan) (path_in_lem rec)
    base_test j = p.is (small j) ∙ (ap (λ (q : Walk). unrepeated (base_of b) q) (sym path_is) ∙ ap (λ (ρ : Base). unrepeated ρ (path_in_lem rec)) b_is)

    pub repeated : r ≡ false → JudgedAnswer graph plan rec false
    repeated e = record { is = λ j. says_no graph plan rec (λ m. no_true (sym (taken graph plan rec s m).repeats_nothing ∙ (sym (base_test j) ∙ e))) }

    pub any_length : (short : Bool) → r ≡ true → short ≡ (restrictor_in plan).shortest → not short ≡ true → JudgedAnswer graph plan rec true
    any_length short e i n =
        let z : (restrictor_in plan).shortest ≡ false = sym i ∙ not_true short n in
        record { is = λ j. says_yes graph plan rec (given graph plan rec s (record { yes = j; repeats_nothing = sym (base_test j) ∙ e; shortest = rw z tt })) }

    pub shortest_is : (short x : Bool) → r ≡ true → short ≡ (restrictor_in plan).shortest → not short ≡ false → NoneShorter graph plan last (get_or rec 1 0) (get_or rec (2 * last + 1) 0) x → JudgedAnswer graph plan rec x
    shortest_is short x e i n k = go x k (sym i ∙ not_false short n)
      where
        go : (x : Bool) → NoneShorter graph plan last (get_or rec 1 0) (get_or rec (2 * last + 1) 0) x → (restrictor_in plan).shortest ≡ true → JudgedAnswer graph plan rec x
        go true k z = record { is = λ j. says_yes graph plan rec (given graph plan rec s (record { yes = j; repeats_nothing = sym (base_test j) ∙ e; shortest = rw (z, path_is) (least (k.yes_is refl)) })) }
        go false k z = let m = k.no_is refl in record { is = λ j. says_no graph plan rec (λ i. beaten z m.0 m.1 m.2 (taken graph plan rec s i)) }

-- ------------------------------------------------------------------ the ends of the path
pub first_node : (graph rec : List ℕ) (last : ℕ) → NodesBelow rec last (nodes_in_lem graph) → get_or rec 1 0 < nodes_in_lem graph
first_node graph rec last b = b.node 0 (omega arith)

pub last_node : (graph plan rec : List ℕ) (last : ℕ) → Sound graph plan → NodesBelow rec last (nodes_in_lem graph) → get_or rec (2 * last + 1) 0 < 256
last_node graph plan rec last h b = omega (arith, b.node last (omega arith), h.lawful.few_nodes)
