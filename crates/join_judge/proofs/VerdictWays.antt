-- Words against the records of a join: the ways through the code.
use mathlib.Core.Path.{◌∙◌, ◌≡◌, ap, sym}
use mathlib.Core.List.Memᴰ
use mathlib.Core.List.{List, ◌++◌}
use mathlib.Core.Option.{some}
use mathlib.Core.Bool.{Bool, false, not, true}
use Prim.Native.Nat.{◌<◌, ◌≤◌, ℕ}
use native.Mathlib.Omega.{arith}
use lib.ListN.{drop, length, length-append}
use Rattle.compiled.proofs.Graphs.{edges_are, nodes_are}
use Rattle.compiled.specs.Words.{graph_in}
use Rattle.join_judge.proofs.ValueWays.{view_here, view_within}
use Rattle.join_judge.specs.Judging.{JoinJudges, Laid, PartsJudged, SomeLaid}
use Rattle.join_judge.specs.Names.{AreNames}
use Rattle.join_judge.specs.Own.{ValuesEnd}
use Rattle.std.specs.Prelude.{None, Some}
use Rattle.join_judge.specs.Paths.{Begun, PathsAre, PathsEnd}
use Rattle.joins.proofs.Members.{joint_fits}
use Rattle.joins.proofs.PathLevel.{chosen_length, listed→}
use Rattle.joins.proofs.Setting.{Setting}
use Rattle.joins.proofs.Tails.{tail→, tail←}
use Rattle.joins.proofs.ValueLevel.{AllWhole, join_whole→, join_whole←, value→}
use Rattle.joins.specs.Flat.{flat_record_lem, name_words, union_of}
use Rattle.joins.specs.Projected.{found_in}
use Rattle.joins.specs.Tails.{tails}
use Rattle.matcher.proofs.SlotViews.{slots_whole}
use Rattle.matcher.specs.Records.{after_slots}
use Rattle.meaning.proofs.Logic.{no_false, not_false, not_true, some_inj}
use Rattle.meaning.proofs.QueryReading.{PathsFew}
use Rattle.meaning.specs.Basics.{◌∈◌, each, eight}
use Rattle.meaning.specs.Graph.{Graph, Walk}
use Rattle.meaning.specs.QueryWords.{Part}
use Rattle.meaning.specs.Record.{path_words_lem, variable_words}
use Rattle.parts.proofs.PlanLaws.{planned_few, planned_lawful}
use Rattle.parts.specs.Paths.{joined}
use Rattle.parts.specs.Plans.{AllPlanned, QueryPlanned}
use Rattle.parts.specs.Shapes.{ShapeIs}
use Rattle.parts.specs.declared.shape.Shape.{Shape}

-- ------------------------------------------------------------------ the records of a join
module _ (graph plans : List ℕ) (l : List Part) (planned : AllPlanned graph plans l) where
  abbrev G : Graph
  G = graph_in graph

  set : Setting l
  set = planned.setting

  few_nodes : (graph_in graph).nodes < 65535
  few_nodes = omega (arith, nodes_are graph, (planned_lawful graph plans l planned).few_nodes)

  few_edges : length (graph_in graph).edges < 65535
  few_edges = omega (arith, edges_are graph, (planned_lawful graph plans l planned).few_edges)

  -- a record begins with a path for each part
  record_paths : (words : List ℕ) → words ∈ joined graph l → (ps : List Walk) × (t : List ℕ) × (length ps ≡ length l) × PathsFew 200 ps × (words ≡ each ps path_words_lem ++ t)
  unfolding flat_record_lem
  record_paths words m =
      let (ps, νs, c, u, e) = listed→ G planned.valid l set.accepted set.some_part set.names set.sound words m in
      (ps, variable_words eight (union_of νs) ++ name_words l ps, chosen_length G planned.valid l ps νs c, planned_few graph plans l planned ps νs c, e)

  -- words that begin with such paths
  module _ (words : List ℕ) (n end : ℕ) (count : n ≡ length l) (ps : List Walk) (p : PathsAre words n end ps) where
    all : length ps ≡ length l
    all = p.count ∙ count

    behind→ : words ∈ joined graph l → drop end words ∈ tails (each ps path_words_lem) (joined graph l)
    behind→ m = tail← (each ps path_words_lem) (joined graph l) (drop end words) (Memᴰ.cast (sym p.words_are) m)

    -- the values of a record are whole, and the named paths come behind them
    record_ends : words ∈ joined graph l → after_slots eight (found_in l) (some (drop end words)) ≡ some (name_words l ps)
    record_ends m =
        let (νs, c, u, e) = value→ G planned.valid 200 few_nodes few_edges (omega arith) l set.accepted set.some_part set.names set.sound set.clean ps all p.few (drop end words) (behind→ m) in
        ap (λ (w : List ℕ). after_slots eight (found_in l) (some w)) e
        ∙ slots_whole G.nodes (length G.edges) 200 few_nodes few_edges (omega arith) eight (found_in l) (union_of νs) set.clean (joint_fits G planned.valid 200 l ps νs set.accepted c p.few) (name_words l ps)

    -- each part's own words are a record of it
    record_whole : words ∈ joined graph l → AllWhole (graph_in graph) (found_in l) l ps (drop end words)
    record_whole m = join_whole→ G planned.valid 200 few_nodes few_edges (omega arith) l set.accepted set.some_part set.names set.sound set.clean ps all p.few (drop end words) (behind→ m)

    whole_record : after_slots eight (found_in l) (some (drop end words)) ≡ some (name_words l ps) → AllWhole (graph_in graph) (found_in l) l ps (drop end words) → words ∈ joined graph l
    whole_record e w = Memᴰ.cast p.words_are (tail→ (each ps path_words_lem) (joined graph l) (drop end words)
        (join_whole← G planned.valid 200 few_nodes few_edges (omega arith) l set.accepted set.some_part set.names set.sound set.clean ps all p.few (drop end words) e w))

-- ------------------------------------------------------------------ no values: too many words, or no such paths
module _ (graph plans words : List ℕ) (shape : Shape) where
  never : ((l : List Part) → AllPlanned graph plans l → ShapeIs l shape → words ∈ joined graph l → ⊥) → JoinJudges graph plans words shape false
  never h = record { yes_is = λ e. no_false e; no_is = λ e. h }

  pub too_long : 20000 < length words → JoinJudges graph plans words shape false
  too_long k = never (λ l planned s m. omega (arith, planned.short words m))

  pub no_paths : PathsEnd words shape.parts None → JoinJudges graph plans words shape false
  no_paths h = never (λ l planned s m. let (ps, t, n, few, e) = record_paths graph plans l planned words m in h.is ps t (n ∙ sym s.parts_is) few e)

  pub paths_begun : (end : ℕ) → PathsEnd words shape.parts (Some end) → Begun words shape.parts end
  paths_begun end h = h.is.begun

  -- ---------------------------------------------------------------- the paths end at `end`, the values at `to`
  module _ (end : ℕ) (b : Begun words shape.parts end) where
    pub begun_inside : end ≤ length words
    begun_inside = let p = b.paths_are in omega (arith, ap length p.words_are, length-append (each b.paths path_words_lem) (drop end words), p.end_is)

    module _ (to : ℕ) (v : ValuesEnd words shape.types end to) where
      pub no_values : length words < to → JoinJudges graph plans words shape false
      no_values k = never (λ l planned s m.
          let (i, q) = view_within words to (name_words l b.paths) (v.is (found_in l) s.type_is ∙ record_ends graph plans l planned words shape.parts end s.parts_is b.paths b.paths_are m) in omega arith)

      module _ (room : to ≤ length words) where
        whole : (l : List Part) → ShapeIs l shape → after_slots eight (found_in l) (some (drop end words)) ≡ some (drop to words)
        whole l s = sym (v.is (found_in l) s.type_is) ∙ view_here words to room

        laid : (l : List Part) → AllPlanned graph plans l → (s : ShapeIs l shape) → Laid graph plans words shape end l b.paths (drop to words)
        laid l planned s = record { planned = planned; shape_is = s; paths_are = b.paths_are; ends = whole l s }

        pub some_laid : QueryPlanned graph plans shape → SomeLaid graph plans words shape end
        some_laid q = record { query = q.query; paths = b.paths; rest = drop to words; laid = laid q.query q.planned q.shape_is }

        pub other_names : (r : Bool) → AreNames words shape to r → not r ≡ true → JoinJudges graph plans words shape false
        other_names r n e = never (λ l planned s m. n.no_is (not_true r e) end l b.paths s b.paths_are
            (some_inj (sym (whole l s) ∙ record_ends graph plans l planned words shape.parts end s.parts_is b.paths b.paths_are m)))

        pub parts_decide : (r v : Bool) → AreNames words shape to r → not r ≡ false → PartsJudged graph plans words shape end v → JoinJudges graph plans words shape v
        parts_decide r v n e j = record {
          yes_is = λ y l planned s. whole_record graph plans l planned words shape.parts end s.parts_is b.paths b.paths_are
              (whole l s ∙ ap some (n.yes_is (not_false r e) end l b.paths s b.paths_are)) (j.yes_is y l b.paths (drop to words) (laid l planned s));
          no_is = λ y l planned s m. j.no_is y l b.paths (drop to words) (laid l planned s) (record_whole graph plans l planned words shape.parts end s.parts_is b.paths b.paths_are m);
        }
