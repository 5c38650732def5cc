-- The judge of a query, for any paths and any assignment that conforms to the query's types: its yes to their record means that they are an answer.
use mathlib.Core.Path.{◌∙◌, ◌≡◌, ap, fun_ext, refl, sym}
use mathlib.Core.List.Memᴰ
use mathlib.Core.List.{List, [], ◌++◌}
use mathlib.Core.Option.{Option, none}
use mathlib.Core.Bool.{Bool, false, true}
use mathlib.Core.Logic.{◌↔◌}
use Prim.Native.Nat.{◌≤◌, ℕ}
use native.Mathlib.Omega.{arith}
use lib.ListN.{length, length-append}
use Rattle.meaning.proofs.AnyAssignment.{bounded}
use Rattle.meaning.proofs.Logic.{all_map, all_mem}
use Rattle.meaning.proofs.QueryGranted.{answer_few, few_edges, few_nodes, in_twelve, query_granted, query_no_longer, query_variables}
use Rattle.meaning.proofs.QueryOpened.{query_opened}
use Rattle.meaning.proofs.QueryReading.{PathsFew, paths_count, paths_part, query_conforms, vars_part}
use Rattle.meaning.proofs.QuerySize.{QueryAccepted, accepted_sound, length_path}
use Rattle.meaning.proofs.QueryTold.{query_judged, query_judged_answer}
use Rattle.meaning.proofs.QueryTypes.{query_unused→absent}
use Rattle.meaning.specs.Basics.{All, ◌∈◌, each}
use Rattle.meaning.specs.Graph.{Graph, Walk}
use Rattle.meaning.specs.Image.{graph_of}
use Rattle.meaning.specs.Joins.{QueryAssignment, QueryConforms, QueryMeaning, QueryValue}
use Rattle.meaning.specs.Query.{Query, QueryFound, element, in_query, path, query_type_of, width}
use Rattle.meaning.specs.QueryListing.{judge_query, query_fixed_fault, query_in}
use Rattle.meaning.specs.QueryRecord.{query_record_of, query_slot_words, query_variable_words, twelve}
use Rattle.meaning.specs.Record.{path_words_lem, value_words_lem}
use Rattle.meaning.specs.Typing.{absent, clash, typed}

slot_words : (μ : QueryAssignment) {x : ℕ} {xs : List ℕ} → x ∈ xs → length (query_slot_words (μ x)) ≤ length (query_variable_words xs μ)
unfolding query_opened
slot_words μ (Memᴰ.head {x = y} {xs = ys} e) = rw e (omega (arith, length-append (query_slot_words (μ y)) (query_variable_words ys μ)))
slot_words μ (Memᴰ.tail {x = y} {xs = ys} m) = omega (arith, length-append (query_slot_words (μ y)) (query_variable_words ys μ), slot_words μ m)

-- a bound on the words bounds groups and paths
module _ (n m k b : ℕ) where
  slot_bounded : (f : QueryFound) (o : Option QueryValue) → QueryConforms n m k f o → length (query_slot_words o) ≤ b → QueryConforms n m b f o
  unfolding query_opened
  slot_bounded (element absent) o c h = c
  slot_bounded (element clash) o c h = tt
  slot_bounded (element (typed τ)) o (v, q, a) h = let l : length (value_words_lem v) ≤ b = rw q at h in (v, q, bounded n m k b τ v a l)
  slot_bounded path o (p, q, a) h = let l : length (path_words_lem p) ≤ b = rw q at h in (p, q, omega (arith, length_path p))

  query_bounded : (Q : Query) → QueryAccepted Q → (ps : List Walk) (μ : QueryAssignment) → ((x : ℕ) → QueryConforms n m k (query_type_of Q x) (μ x)) → length (query_record_of ps μ) ≤ b → (x : ℕ) → QueryConforms n m b (query_type_of Q x) (μ x)
  unfolding query_opened
  query_bounded Q ok ps μ c h x = go (in_query Q x) refl
    where
      go : (u : Bool) → in_query Q x ≡ u → QueryConforms n m b (query_type_of Q x) (μ x)
      go true e = slot_bounded (query_type_of Q x) (μ x) (c x) (omega (arith, slot_words μ (in_twelve x (query_variables Q ok x e)), length-append (each ps path_words_lem) (query_variable_words twelve μ)))
      go false e = let a : query_type_of Q x ≡ element absent = query_unused→absent Q x e in rw a (rw a at (c x))

-- equal at every variable, so the same assignment
moved : (G : Graph) (Q : Query) {ps qs : List Walk} {μ ν : QueryAssignment} → ps ≡ qs → ((x : ℕ) → μ x ≡ ν x) → QueryMeaning G Q qs ν → QueryMeaning G Q ps μ
moved G Q {μ = μ} {ν = ν} e f a = let g : μ ≡ ν = fun_ext f in rw (e, g) a

-- k bounds the factors of a group and the edges of a named path, and any k will do
pub query_judged_assignment : (image query : List ℕ) → query_fixed_fault image query ≡ none → (k : ℕ) (ps : List Walk) (μ : QueryAssignment) → length ps ≡ width (query_in query) → ((x : ℕ) → QueryConforms (graph_of image).nodes (length (graph_of image).edges) k (query_type_of (query_in query) x) (μ x)) → (judge_query image query (query_record_of ps μ) ≡ true) ↔ QueryMeaning (graph_of image) (query_in query) ps μ
unfolding query_opened
query_judged_assignment image query ok k ps μ w c = (there, back)
  where
    same_at : (Q : Query) → QueryAccepted Q → (μ ν : QueryAssignment) (n m b : ℕ) → ((x : ℕ) → QueryConforms n m b (query_type_of Q x) (μ x)) → ((x : ℕ) → QueryConforms n m b (query_type_of Q x) (ν x)) → All (λ x. μ x ≡ ν x) twelve → (x : ℕ) → μ x ≡ ν x
    same_at Q ok μ ν n m b c d s x = go (in_query Q x) refl
      where
        none_of : (ξ : QueryAssignment) → QueryConforms n m b (query_type_of Q x) (ξ x) → in_query Q x ≡ false → ξ x ≡ none
        none_of ξ h e = let z : QueryConforms n m b (element absent) (ξ x) = rw (query_unused→absent Q x e) at h in z

        go : (u : Bool) → in_query Q x ≡ u → μ x ≡ ν x
        go true e = all_mem (λ y. μ y ≡ ν y) s (in_twelve x (query_variables Q ok x e))
        go false e = none_of μ (c x) e ∙ sym (none_of ν (d x) e)

    there : judge_query image query (query_record_of ps μ) ≡ true → QueryMeaning (graph_of image) (query_in query) ps μ
    there e =
        let G = graph_of image in
        let Q = query_in query in
        let g = query_granted image query ok in
        let h = (query_judged_answer image query ok (query_record_of ps μ)).0 e in
        let short = query_no_longer image query ok (query_record_of ps μ) ((query_judged image query (query_record_of ps μ)).0 e) in
        let few : PathsFew 19224 h.paths = all_map (λ p l. omega (arith, l)) h.paths (answer_few image query g h.paths h.assignment h.answer) in
        let c' = query_bounded G.nodes (length G.edges) k 19224 Q g.accepted ps μ c short in
        let d = query_conforms G g.read.valid 19224 Q (accepted_sound Q g.accepted) h.paths h.assignment h.answer few in
        let z = paths_part ps h.paths (query_variable_words twelve μ) (query_variable_words twelve h.assignment) (w ∙ sym (paths_count G g.read.valid 200 Q h.paths h.assignment h.answer)) h.record_is in
        let y = vars_part G.nodes (length G.edges) 19224 (omega (arith, few_nodes image query g)) (omega (arith, few_edges image query g)) (omega arith) (query_type_of Q) g.no_clash μ c' h.assignment d twelve [] []
        (ap (λ (r : List ℕ). r ++ []) z.1) in
        moved G Q z.0 (same_at Q g.accepted μ h.assignment G.nodes (length G.edges) 19224 c' d y.0) h.answer

    back : QueryMeaning (graph_of image) (query_in query) ps μ → judge_query image query (query_record_of ps μ) ≡ true
    back a = (query_judged_answer image query ok (query_record_of ps μ)).1 (record { paths = ps; assignment = μ; answer = a; record_is = refl })
