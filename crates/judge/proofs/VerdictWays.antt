-- The ways out of the verdict. Assumes nothing.
use mathlib.Core.Path.{◌≡◌, sym, ◌∙◌}
use mathlib.Core.Bool.{Bool, true, false, ◌&&◌}
use mathlib.Core.List.{List}
use Prim.Native.Nat.{ℕ, suc, ◌+◌, ◌*◌, ◌<◌, ◌≤◌}
use native.Mathlib.Omega.{arith}
use lib.Dec.{ltb}
use lib.ListN.{drop, get_or, length}
use borrow.Author.Tests.{lt-ltb, ltb-true}
use Rattle.compiled.proofs.Graphs.{nodes_are}
use Rattle.compiled.specs.Parts.{pattern_in_lem, restrictor_in}
use Rattle.compiled.specs.Sound.{Sound}
use Rattle.compiled.specs.Words.{graph_in, nodes_in_lem}
use Rattle.matcher.proofs.Searching.{and_both}
use Rattle.matcher.proofs.SlotViews.{all_below←, all_below→}
use Rattle.matcher.specs.Judge.{all_below, at_end_lem, judge_path, judge_words_lem}
use Rattle.matcher.specs.Records.{after_slots, node_word_lem, record_ends_lem}
use Rattle.matcher.specs.Values.{skip}
use Rattle.meaning.proofs.Logic.{and_l, and_r, no_true}
use Rattle.meaning.specs.Basics.{◌∈◌, eight}
use Rattle.meaning.specs.Listing.{listing}
use Rattle.meaning.specs.Typing.{type_of}
use Rattle.plan.specs.Ready.{FitIs, Prepared, Ready}
use Rattle.judge.specs.Judging.{JudgedAnswer, Judges, Matches, NodesBelow, NodesWithin, Told}
use Rattle.judge.proofs.ListedWays.{room, says_no, taken}
use Rattle.judge.proofs.ToldWords.{judge_words, node_word}

module _ (graph plan rec : List ℕ) (s : Sound graph plan) where
  -- ------------------------------------------------------------------ what no record has
  pub too_few : length rec < 2 → Judges graph plan rec false
  too_few l = says_no graph plan rec (λ m. omega (arith, (room graph plan rec s m).0))

  pub too_many : 20000 < length rec → Judges graph plan rec false
  too_many l = says_no graph plan rec (λ m. omega (arith, (room graph plan rec s m).2))

  pub too_far : (last : ℕ) → last ≡ get_or rec 0 0 → 200 < last → Judges graph plan rec false
  too_far last q l = says_no graph plan rec (λ m. omega (arith, (room graph plan rec s m).1))

  pub cut_off : (last words : ℕ) → last ≡ get_or rec 0 0 → words ≡ 2 * last + 2 → length rec < words → Judges graph plan rec false
  cut_off last words q e l = says_no graph plan rec (λ m. omega (arith, (room graph plan rec s m).0))

  -- ------------------------------------------------------------------ the nodes of the path
  module _ (last : ℕ) (T : Told rec last) where
    nodes_test : ℕ → Bool
    nodes_test i = ltb (node_word_lem (drop 1 rec) i) (graph_in graph).nodes

    words_test : Bool
    words_test = at_end_lem (after_slots eight (type_of (pattern_in_lem plan)) (skip (2 * last + 1) (drop 1 rec))) && record_ends_lem (graph_in graph) eight (pattern_in_lem plan) last (drop 1 rec) last

    judge_parts : judge_words_lem (graph_in graph) eight (pattern_in_lem plan) rec ≡ ((ltb last 65535 && all_below (suc last) nodes_test) && words_test)
    unfolding judge_path nodes_test words_test
    judge_parts = judge_words rec last (graph_in graph) (pattern_in_lem plan) (omega (arith, T.whole)) T.first

    judged_words : rec ∈ listing (graph_in graph) (restrictor_in plan) (pattern_in_lem plan) → judge_words_lem (graph_in graph) eight (pattern_in_lem plan) rec ≡ true
    judged_words m = (taken graph plan rec s m).yes

    node_below : rec ∈ listing (graph_in graph) (restrictor_in plan) (pattern_in_lem plan) → (i : ℕ) → i ≤ last → get_or rec (2 * i + 1) 0 < nodes_in_lem graph
    unfolding nodes_test
    node_below m i l =
        let A : Bool = ltb last 65535 && all_below (suc last) nodes_test in
        let h = all_below→ (suc last) nodes_test (and_r (ltb last 65535) (all_below (suc last) nodes_test) (and_l A words_test (sym judge_parts ∙ judged_words m))) i (omega arith) in
        omega (arith, ltb-true (node_word_lem (drop 1 rec) i) (graph_in graph).nodes h, node_word rec i, nodes_are graph)

    pub off_graph : (count : ℕ) (r : Bool) → count ≡ nodes_in_lem graph → NodesWithin rec last count r → r ≡ false → Judges graph plan rec false
    off_graph count r d w e = says_no graph plan rec (λ m. let (i, l, h) = w.no_is e in omega (arith, node_below m i l))

    -- ---------------------------------------------------------------- the values
    pub no_match : (r : Bool) → Matches graph plan rec last r → r ≡ false → Judges graph plan rec false
    unfolding words_test
    no_match r m e = says_no graph plan rec (λ i.
        let A : Bool = ltb last 65535 && all_below (suc last) nodes_test in
        no_true (sym (and_r A words_test (sym judge_parts ∙ judged_words i)) ∙ (sym m.is ∙ e)))

    pub matched : (r x : Bool) → NodesBelow rec last (nodes_in_lem graph) → Matches graph plan rec last r → r ≡ true → JudgedAnswer graph plan rec x → Judges graph plan rec x
    unfolding words_test nodes_test
    matched r x b m e h = h.is (judge_parts ∙ and_both (and_both (lt-ltb last 65535 (omega (arith, T.few)))
        (all_below← (suc last) nodes_test (λ i l. lt-ltb (node_word_lem (drop 1 rec) i) (graph_in graph).nodes (omega (arith, b.node i (omega arith), node_word rec i, nodes_are graph))))) (sym m.is ∙ e))

pub nodes_in : (graph rec : List ℕ) (last count : ℕ) (r : Bool) → count ≡ nodes_in_lem graph → NodesWithin rec last count r → r ≡ true → NodesBelow rec last (nodes_in_lem graph)
nodes_in graph rec last count r d w e = rw d at (w.yes_is e)

pub prepared_is : (graph plan fit rec : List ℕ) (last : ℕ) → Ready graph plan → FitIs graph plan fit rec last → Told rec last → 401 ≤ length fit → Prepared graph plan fit rec (length rec) last
prepared_is graph plan fit rec last d f T l = record {
  ready = d;
  fit_is = f;
  short = T.few;
  fit_room = l;
  path_known = T.whole;
  known_room = omega arith;
  known_most = T.short;
}
