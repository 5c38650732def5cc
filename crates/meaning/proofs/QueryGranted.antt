-- The full listing of an image and a query's words: what nothing refuses is a graph and a query, and what then holds of every record.
use mathlib.Core.Path.{◌∙◌, ◌≡◌, ap, refl, sym}
use mathlib.Core.List.{List, [], ◌++◌, ◌∷◌, append-nil}
use mathlib.Core.Option.{none, some}
use mathlib.Core.Bool.{Bool, ◌&&◌, ◌||◌, false, not, true}
use mathlib.Core.Logic.{◌≢◌, ◌↔◌}
use Prim.Native.Nat.{◌*◌, ◌+◌, ◌≤◌, suc, zero, ℕ}
use native.Mathlib.Omega.{arith}
use lib.Dec.{eqb, leb}
use lib.ListN.{drop, get_or, length, length-map}
use borrow.Author.Tests.{eqb-true, le-leb, leb-true}
use Rattle.meaning.proofs.Accepted.{Accepted, in_up_from}
use Rattle.meaning.proofs.Causes.{first_none, whole_none}
use Rattle.meaning.proofs.Granted.{pattern_accepted}
use Rattle.meaning.proofs.ImageRead.{Read, image_read}
use Rattle.meaning.proofs.Lists.{length_up}
use Rattle.meaning.proofs.Logic.{all_mem, all_of, and_both, and_l, and_r, either, no_true, not_false, or_cases, or_false_l, or_false_r}
use Rattle.meaning.proofs.QueryAnswers.{query_listing_iff, query_listing_sorted, query_listing_unique}
use Rattle.meaning.proofs.QueryOpened.{query_opened}
use Rattle.meaning.proofs.QueryReading.{PathsFew, ReadBy, paths_count, query_conforms, query_part, query_readable}
use Rattle.meaning.proofs.QuerySize.{QueryAccepted, accepted_sound, paths_few, query_size}
use Rattle.meaning.proofs.QueryTypes.{element_inj, query_unused→absent}
use Rattle.meaning.specs.Answer.{Base, longest, restrictor_of, simple, trail}
use Rattle.std.specs.Prelude.{if◌then◌else◌}
use Rattle.meaning.specs.Basics.{All, Cause, ◌∈◌, first_of, up_from, rowless}
use Rattle.meaning.specs.FullListing.{unless_refused}
use Rattle.meaning.specs.Graph.{Graph, Walk}
use Rattle.meaning.specs.Image.{edge_count, edge_row, graph_of, image_fault}
use Rattle.meaning.specs.Joins.{QueryAssignment, QueryConforms, QueryMeaning}
use Rattle.meaning.specs.Listing.{Before, Sorted}
use Rattle.meaning.specs.Pattern.{in_var}
use Rattle.meaning.specs.Query.{Query, element, in_query, joining, naming, query_type_of, unnamed, width}
use Rattle.meaning.specs.QueryListing.{query_fixed_fault, query_full_listing, query_in}
use Rattle.meaning.specs.QueryRecord.{QueryListed, query_listing, query_record_of, query_record_size, twelve}
use Rattle.meaning.specs.QueryWords.{Part, bad_layout_lem, bad_names_lem, bad_restrictor, is_name_lem, is_query_clash, lengths_of, name_used_lem, part_query, parts_fault, parts_from, parts_of, query_fault, query_of, query_untyped}
use Rattle.meaning.specs.Record.{Record}
use Rattle.meaning.specs.Table.{any_of, is_variable_lem, pattern_fault, pattern_of}
use Rattle.meaning.specs.Typing.{absent, clash}

-- the image and the query of a listing that nothing fixed refuses
pub record QueryGranted (image query : List ℕ) : Type 0 where
  pub read : Read image
  pub some_part : 1 ≤ width (query_in query)
  pub few_parts : width (query_in query) ≤ 4
  pub accepted : QueryAccepted (query_in query)
  pub no_clash : (x : ℕ) → query_type_of (query_in query) x ≢ element clash

-- ------------------------------------------------------------------ how many parts
pub length_parts : (n : ℕ) (heads patterns : List ℕ) → length (parts_from n heads patterns) ≡ n
unfolding query_opened
length_parts zero heads patterns = refl
length_parts (suc n) heads patterns = ap suc (length_parts n (drop 3 heads) (drop (get_or heads 2 0) patterns))

width_part : (a : Part) → width (part_query a) ≡ 1
unfolding query_opened
width_part a = go (eqb a.name 0)
  where
    go : (b : Bool) → width (if b then unnamed (restrictor_of a.restrictor) (pattern_of a.words) else naming a.name (restrictor_of a.restrictor) (pattern_of a.words)) ≡ 1
    go true = refl
    go false = refl

pub width_is : (l : List Part) → 1 ≤ length l → width (query_of l) ≡ length l
unfolding query_opened
width_is [] h = absurd (omega arith)
width_is (a ∷ []) h = width_part a
width_is (a ∷ b ∷ l) h = omega (arith, width_part a, width_is (b ∷ l) (omega arith))

pub layout_parts : (w : List ℕ) → bad_layout_lem w ≡ false → (1 ≤ length (parts_of w)) × (length (parts_of w) ≤ 4)
unfolding query_opened
layout_parts [] e = no_true e
layout_parts (n ∷ w) e =
    let h = not_false (leb 1 n && leb n 4) (or_false_l (not (leb 1 n && leb n 4)) (not (eqb (length w) (3 * n + lengths_of n w))) e) in
    let l = length_parts n w (drop (3 * n) w) in
    (omega (arith, l, leb-true 1 n (and_l (leb 1 n) (leb n 4) h)), omega (arith, l, leb-true n 4 (and_r (leb 1 n) (leb n 4) h)))

-- ------------------------------------------------------------------ each part
good_name : (a : Part) (u : Bool) → (not (eqb a.name 0) && (not (is_name_lem a.name) || u)) ≡ false → eqb a.name 0 ≡ false → is_name_lem a.name ≡ true
unfolding query_opened
good_name a u e z = not_false (is_name_lem a.name) (or_false_l (not (is_name_lem a.name)) u (rw z at e))

part_accepted : (a : Part) (u : Bool) → (not (eqb a.name 0) && (not (is_name_lem a.name) || u)) ≡ false → Accepted (pattern_of a.words) → QueryAccepted (part_query a)
unfolding query_opened
part_accepted a u e h = go (eqb a.name 0) refl
  where
    go : (b : Bool) → eqb a.name 0 ≡ b → QueryAccepted (if b then unnamed (restrictor_of a.restrictor) (pattern_of a.words) else naming a.name (restrictor_of a.restrictor) (pattern_of a.words))
    go true z = h
    go false z = (h, good_name a u e z)

pub parts_accepted : (l : List Part) → 1 ≤ length l → bad_names_lem l ≡ false → parts_fault l ≡ none → QueryAccepted (query_of l)
unfolding query_opened
parts_accepted [] n e f = absurd (omega arith)
parts_accepted (a ∷ []) n e f =
    let t : Bool = not (eqb a.name 0) && (not (is_name_lem a.name) || false) in
    part_accepted a false (or_false_l t false e) (pattern_accepted a.words (first_none (pattern_fault a.words) none f).0)
parts_accepted (a ∷ b ∷ l) n e f =
    let t : Bool = not (eqb a.name 0) && (not (is_name_lem a.name) || name_used_lem a.name (b ∷ l)) in
    let k = first_none (pattern_fault a.words) (parts_fault (b ∷ l)) f in
    (part_accepted a (name_used_lem a.name (b ∷ l)) (or_false_l t (bad_names_lem (b ∷ l)) e) (pattern_accepted a.words k.0), parts_accepted (b ∷ l) (omega arith) (or_false_r t (bad_names_lem (b ∷ l)) e) k.1)

-- ------------------------------------------------------------------ the variables of an accepted query are 1 to 12
unfoldable pub is_query_variable : ℕ → Bool
is_query_variable x = leb 1 x && leb x 12

pub variable_in : (x : ℕ) → is_variable_lem x ≡ true → is_query_variable x ≡ true
unfolding query_opened is_query_variable
variable_in x h = let a = leb-true x 8 (and_r (leb 1 x) (leb x 8) h) in and_both (and_l (leb 1 x) (leb x 8) h) (le-leb x 12 (omega arith))

name_in : (x : ℕ) → is_name_lem x ≡ true → is_query_variable x ≡ true
unfolding query_opened is_query_variable
name_in x h = let a = leb-true 9 x (and_l (leb 9 x) (leb x 12) h) in and_both (le-leb 1 x (omega arith)) (and_r (leb 9 x) (leb x 12) h)

pub query_variables : (Q : Query) → QueryAccepted Q → (x : ℕ) → in_query Q x ≡ true → is_query_variable x ≡ true
unfolding query_opened
query_variables (unnamed ρ π) ok x e = variable_in x (ok.variables x e)
query_variables (naming y ρ π) ok x e = either (or_cases (eqb y x) (in_var π x) e) (λ q. rw (← eqb-true y x q) (name_in y ok.1)) (λ q. variable_in x (ok.0.variables x q))
query_variables (joining a b) ok x e = either (or_cases (in_query a x) (in_query b x) e) (query_variables a ok.0 x) (query_variables b ok.1 x)

any_false : (f : ℕ → Bool) (l : List ℕ) → any_of l f ≡ false → All (λ x. f x ≡ false) l
unfolding query_opened
any_false f [] e = tt
any_false f (x ∷ l) e = (or_false_l (f x) (any_of l f) e, any_false f l (or_false_r (f x) (any_of l f) e))

pub in_twelve : (x : ℕ) → is_query_variable x ≡ true → x ∈ twelve
unfolding query_opened is_query_variable
in_twelve x h = let a = leb-true 1 x (and_l (leb 1 x) (leb x 12) h) in let b = leb-true x 12 (and_r (leb 1 x) (leb x 12) h) in in_up_from 12 1 x a (omega arith)

pub query_no_clash : (Q : Query) → QueryAccepted Q → query_untyped Q ≡ false → (x : ℕ) → query_type_of Q x ≢ element clash
unfolding query_opened
query_no_clash Q ok u x q = go (in_query Q x) refl
  where
    absent_clash : absent ≡ clash → ⊥
    absent_clash e = let z : ◌≡◌ {A = ℕ} 0 1 = cc in omega arith

    go : (b : Bool) → in_query Q x ≡ b → ⊥
    go true e = no_true (sym (ap is_query_clash q) ∙ all_mem (λ y. is_query_clash (query_type_of Q y) ≡ false) (any_false (λ y. is_query_clash (query_type_of Q y)) twelve u) (in_twelve x (query_variables Q ok x e)))
    go false e = absent_clash (element_inj (sym (query_unused→absent Q x e) ∙ q))

-- what the checks of a query grant
pub query_checked : (query : List ℕ) → query_fault query ≡ none → (1 ≤ width (query_in query)) × (width (query_in query) ≤ 4) × QueryAccepted (query_in query) × ((x : ℕ) → query_type_of (query_in query) x ≢ element clash)
unfolding query_opened
query_checked query e =
    let l : List Part = parts_of query in
    let last : Cause = rowless 33 (query_untyped (query_of l)) in
    let a = first_none (rowless 31 (bad_layout_lem query)) (first_of (rowless 32 (bad_names_lem l)) (first_of (parts_fault l) last)) e in
    let b = first_none (rowless 32 (bad_names_lem l)) (first_of (parts_fault l) last) a.1 in
    let c = first_none (parts_fault l) last b.1 in
    let n = layout_parts query (whole_none 31 (bad_layout_lem query) a.0) in
    let ok : QueryAccepted (query_of l) = parts_accepted l n.0 (whole_none 32 (bad_names_lem l) b.0) c.0 in
    (omega (arith, width_is l n.0, n.0), omega (arith, width_is l n.0, n.1), ok, query_no_clash (query_of l) ok (whole_none 33 (query_untyped (query_of l)) c.1))

pub query_granted : (image query : List ℕ) → query_fixed_fault image query ≡ none → QueryGranted image query
unfolding query_opened
query_granted image query e =
    let last : Cause = rowless 21 (bad_restrictor (parts_of query)) in
    let i = first_none (image_fault image) (first_of (query_fault query) last) e in
    let q = query_checked query (first_none (query_fault query) last i.1).0 in
    record { read = image_read image i.0; some_part = q.0; few_parts = q.1; accepted = q.2; no_clash = q.3 }

-- ------------------------------------------------------------------ what nothing fixed refuses
module _ (image query : List ℕ) (g : QueryGranted image query) where
  abbrev G : Graph
  G = graph_of image

  abbrev Q : Query
  Q = query_in query

  pub few_nodes : (graph_of image).nodes ≤ 200
  unfolding query_opened
  few_nodes = g.read.few_nodes

  pub few_edges : length (graph_of image).edges ≤ 200
  unfolding query_opened
  few_edges = let h : edge_count image ≤ 200 = g.read.few_edges in omega (arith, length-map (up_from (edge_count image) 0) (edge_row image), length_up (edge_count image) 0)

  longest_few : (ρ : Base) → longest ρ (graph_of image) ≤ 200
  unfolding query_opened
  longest_few trail = few_edges
  longest_few simple = few_nodes

  pub answer_few : (ps : List Walk) (μ : QueryAssignment) → QueryMeaning (graph_of image) (query_in query) ps μ → PathsFew 200 ps
  answer_few = paths_few G g.read.valid 200 longest_few Q

  pub granted_members : (r : Record) → (r ∈ query_listing (graph_of image) (query_in query)) ↔ QueryListed (graph_of image) (query_in query) r
  granted_members = query_listing_iff G g.read.valid Q (accepted_sound Q g.accepted)

  pub granted_short : (ps : List Walk) (μ : QueryAssignment) → QueryMeaning (graph_of image) (query_in query) ps μ → length (query_record_of ps μ) ≤ 19224
  granted_short ps μ h = query_size G g.read.valid Q g.accepted g.few_parts ps μ h (answer_few ps μ h)

  pub granted_part : (ps qs : List Walk) (μ ν : QueryAssignment) → QueryMeaning (graph_of image) (query_in query) ps μ → QueryMeaning (graph_of image) (query_in query) qs ν → (s t : List ℕ) → query_record_of ps μ ++ s ≡ query_record_of qs ν ++ t → (ps ≡ qs) × All (λ x. μ x ≡ ν x) twelve × (s ≡ t)
  granted_part ps qs μ ν h j = query_part G g.read.valid Q (accepted_sound Q g.accepted) g.no_clash 200 (omega (arith, few_nodes)) (omega (arith, few_edges)) (omega arith) ps qs μ ν h j (answer_few ps μ h) (answer_few qs ν j)

  pub granted_readable : (ps : List Walk) (μ : QueryAssignment) → QueryMeaning (graph_of image) (query_in query) ps μ → ReadBy (query_record_size (query_in query)) (query_record_of ps μ)
  granted_readable ps μ h = query_readable G g.read.valid Q (accepted_sound Q g.accepted) g.no_clash 200 (omega (arith, few_nodes)) (omega (arith, few_edges)) (omega arith) ps μ h (answer_few ps μ h)

  -- a variable that is not used has no value
  unbound : (ps : List Walk) (μ : QueryAssignment) → QueryMeaning (graph_of image) (query_in query) ps μ → (x : ℕ) → in_query (query_in query) x ≡ false → μ x ≡ none
  unbound ps μ h x u =
      let c = query_conforms G g.read.valid 200 Q (accepted_sound Q g.accepted) ps μ h (answer_few ps μ h) x in
      let z : QueryConforms G.nodes (length G.edges) 200 (element absent) (μ x) = rw (query_unused→absent Q x u) at c in z

  -- two answers with one record: the same paths, and the same value at every variable
  pub granted_same : (ps qs : List Walk) (μ ν : QueryAssignment) → QueryMeaning (graph_of image) (query_in query) ps μ → QueryMeaning (graph_of image) (query_in query) qs ν → query_record_of ps μ ≡ query_record_of qs ν → (ps ≡ qs) × ((x : ℕ) → μ x ≡ ν x)
  granted_same ps qs μ ν h j e = let z = granted_part ps qs μ ν h j [] [] (ap (λ (r : List ℕ). r ++ []) e) in (z.0, λ x. go x z.1 (in_query Q x) refl)
    where
      go : (x : ℕ) → All (λ y. μ y ≡ ν y) twelve → (u : Bool) → in_query Q x ≡ u → μ x ≡ ν x
      go x s true f = all_mem (λ y. μ y ≡ ν y) s (in_twelve x (query_variables Q g.accepted x f))
      go x s false f = unbound ps μ h x f ∙ sym (unbound qs ν j x f)

-- ------------------------------------------------------------------ the full listing
module _ (image query : List ℕ) (ok : query_fixed_fault image query ≡ none) where
  granted : QueryGranted image query
  granted = query_granted image query ok

  pub query_full_is : query_full_listing image query ≡ query_listing (graph_of image) (query_in query)
  unfolding query_opened
  query_full_is = rw ok refl

  pub query_members : (r : Record) → (r ∈ query_full_listing image query) ↔ QueryListed (graph_of image) (query_in query) r
  query_members r = let h = granted_members image query granted r in ((λ m. h.0 (rw query_full_is at m)), (λ l. rw query_full_is (h.1 l)))

  pub query_unique : (l : List Record) → Sorted l → ((r : Record) → (r ∈ l) ↔ QueryListed (graph_of image) (query_in query) r) → l ≡ query_full_listing image query
  query_unique l s h = query_listing_unique (graph_of image) granted.read.valid (query_in query) (accepted_sound (query_in query) granted.accepted) l s h ∙ sym query_full_is

  pub query_no_longer : (r : Record) → r ∈ query_full_listing image query → length r ≤ 19224
  query_no_longer r m = let h = (query_members r).0 m in rw h.record_is (granted_short image query granted h.paths h.assignment h.answer)

  pub query_records_part : (r s : Record) → r ∈ query_full_listing image query → s ∈ query_full_listing image query → (x y : List ℕ) → r ++ x ≡ s ++ y → x ≡ y
  query_records_part r s m l x y e =
      let h = (query_members r).0 m in
      let k = (query_members s).0 l in
      (granted_part image query granted h.paths k.paths h.assignment k.assignment h.answer k.answer x y (sym (ap (λ (l : List ℕ). l ++ x) h.record_is) ∙ (e ∙ ap (λ (l : List ℕ). l ++ y) k.record_is))).2

  pub query_none_begins : (r s : Record) → r ∈ query_full_listing image query → s ∈ query_full_listing image query → (x : List ℕ) → r ++ x ≡ s → x ≡ []
  query_none_begins r s m l x e = query_records_part r s m l x [] (e ∙ sym (append-nil s))

  pub query_same_record : (ps qs : List Walk) (μ ν : QueryAssignment) → QueryMeaning (graph_of image) (query_in query) ps μ → QueryMeaning (graph_of image) (query_in query) qs ν → query_record_of ps μ ≡ query_record_of qs ν → (ps ≡ qs) × ((x : ℕ) → μ x ≡ ν x)
  query_same_record = granted_same image query granted

-- ------------------------------------------------------------------ for every image and query, refused or not
unless_all : (P : List Record → Type 0) (c : Cause) (l : List Record) → P [] → (c ≡ none → P l) → P (unless_refused c l)
unfolding query_opened
unless_all P none l h k = k refl
unless_all P (some a) l h k = h

pub query_refused_empty : (image query : List ℕ) (c : ℕ × ℕ) → query_fixed_fault image query ≡ some c → query_full_listing image query ≡ []
unfolding query_opened
query_refused_empty image query c e = rw e refl

pub query_full_sorted : (image query : List ℕ) → Sorted (query_full_listing image query)
unfolding query_opened
query_full_sorted image query = unless_all Sorted (query_fixed_fault image query) (query_listing (graph_of image) (query_in query)) tt (λ e. query_listing_sorted (graph_of image) (query_in query))

pub query_full_not_empty : (image query : List ℕ) → All (Before []) (query_full_listing image query)
unfolding query_opened
query_full_not_empty image query = unless_all (All (Before [])) (query_fixed_fault image query) (query_listing (graph_of image) (query_in query)) tt (λ e.
    let g = query_granted image query e in
    all_of (Before []) (query_listing (graph_of image) (query_in query)) (λ r m.
    let h = (granted_members image query g r).0 m in
    rw h.record_is (not_empty h.paths h.assignment (omega (arith, g.some_part, paths_count (graph_of image) g.read.valid 200 (query_in query) h.paths h.assignment h.answer)))))
  where
    not_empty : (ps : List Walk) (ν : QueryAssignment) → 1 ≤ length ps → Before [] (query_record_of ps ν)
    not_empty [] ν l = absurd (omega arith)
    not_empty (p ∷ ps) ν l = refl

pub query_full_readable : (image query : List ℕ) → All (ReadBy (query_record_size (query_in query))) (query_full_listing image query)
unfolding query_opened
query_full_readable image query = unless_all (All (ReadBy (query_record_size (query_in query)))) (query_fixed_fault image query) (query_listing (graph_of image) (query_in query)) tt (λ e.
    let g = query_granted image query e in
    all_of (ReadBy (query_record_size (query_in query))) (query_listing (graph_of image) (query_in query)) (λ r m.
    let h = (granted_members image query g r).0 m in rw h.record_is (granted_readable image query g h.paths h.assignment h.answer)))
