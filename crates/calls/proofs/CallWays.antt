-- The ways through the calls: one part without a name by the lister and the judge of one part, any other query by those of a join.
use mathlib.Core.Path.{◌∙◌, ◌≡◌, ap, refl, sym}
use mathlib.Core.Bool.{Bool, false, true}
use mathlib.Core.List.{List, [], ◌∷◌}
use mathlib.Core.Option.{none}
use Prim.Native.Nat.{◌*◌, ◌<◌, ℕ}
use native.Mathlib.Omega.{arith}
use lib.ListN.{length}
use borrow.Author.Tests.{eqb-true}
use Rattle.calls.specs.Called.{Called, CalledBy, FilledOn, JudgedOn, PlanOf, PlansOf, WithinBy, WithinOn, is_alone_lem}
use Rattle.compiled.specs.Copies.{GraphFilled}
use Rattle.compiled.specs.Derived.{plan_words}
use Rattle.compiled.specs.Parts.{pattern_in_lem, restrictor_in}
use Rattle.compiled.specs.Sound.{Lawful}
use Rattle.compiled.specs.Words.{graph_in}
use Rattle.join_judge.specs.Judging.{JoinJudges}
use Rattle.joiner.specs.Visits.{JoinFilled}
use Rattle.joins.proofs.Setting.{join_prefix_free, query_setting}
use Rattle.judge.specs.Judging.{Judges}
use Rattle.meaning.proofs.Causes.{first_none}
use Rattle.meaning.proofs.Logic.{is_false, no_false}
use Rattle.meaning.proofs.OnePart.{Alone, one_fault, one_listing}
use Rattle.meaning.proofs.QueryGranted.{layout_parts, query_full_is, query_granted, query_no_longer}
use Rattle.meaning.proofs.QueryTold.{query_judged}
use Rattle.meaning.specs.Basics.{Cause, ◌∈◌, first_of, rowless}
use Rattle.meaning.specs.Image.{image_fault}
use Rattle.meaning.specs.Listing.{listing}
use Rattle.meaning.specs.Page.{after}
use Rattle.meaning.specs.QueryListing.{judge_query, query_fixed_fault, query_full_listing, query_in}
use Rattle.meaning.specs.QueryWords.{Part, bad_layout_lem, bad_restrictor, parts_of, query_fault}
use Rattle.meaning.specs.Record.{Record}
use Rattle.page.specs.Pages.{sheet_of}
use Rattle.page.specs.declared.state.State.{State}
use Rattle.parts.specs.Paths.{joined}
use Rattle.parts.specs.Plans.{AllPlanned, PartPlan, QueryPlanned}
use Rattle.parts.specs.Shapes.{ShapeIs}
use Rattle.parts.specs.declared.shape.Shape.{Shape}
use Rattle.plan.specs.Ready.{Ready}
use Rattle.promises.specs.Walked.{Filled}
use Rattle.query.proofs.CheckWays.{accepted_fine}
use Rattle.query.specs.Fine.{Accepted}
use Rattle.search.proofs.Listings.{full_is}
use Rattle.search.specs.Sheet.{place_all}
use Rattle.sitting.specs.declared.total.Sitting.{Sitting}

-- ------------------------------------------------------------------ what is granted
module _ (image query : List ℕ) (ok : query_fixed_fault image query ≡ none) where
  pub image_none : image_fault image ≡ none
  unfolding query_fixed_fault
  image_none = (first_none (image_fault image) (first_of (query_fault query) (rowless 21 (bad_restrictor (parts_of query)))) ok).0

  query_none : query_fault query ≡ none
  unfolding query_fixed_fault
  query_none =
      let last : Cause = rowless 21 (bad_restrictor (parts_of query)) in
      (first_none (query_fault query) last (first_none (image_fault image) (first_of (query_fault query) last) ok).1).0

  laid_out : bad_layout_lem query ≡ false
  laid_out = (accepted_fine query query_none).fine.laid_out

  pub call_made : (graph : List ℕ) → GraphFilled image graph → CalledBy query graph
  call_made graph g = record { image = image; called = record { graph_is = g; granted = ok } }

pub told_alone : (query : List ℕ) (r : Bool) → r ≡ is_alone_lem (parts_of query) → r ≡ true → is_alone_lem (parts_of query) ≡ true
told_alone query r e f = sym e ∙ f

module _ (query graph : List ℕ) (c : CalledBy query graph) where
  pub call_accepted : Accepted query
  call_accepted = accepted_fine query (query_none c.image query c.called.granted)

  pub call_laid_out : bad_layout_lem query ≡ false
  call_laid_out = call_accepted.fine.laid_out

  pub call_lawful : Lawful graph
  call_lawful = c.called.graph_is.lawful

  pub call_some : 0 < length (parts_of query)
  call_some = omega (arith, (layout_parts query call_laid_out).0)

-- ------------------------------------------------------------------ from a listing to the full listing
module _ (image query : List ℕ) where
  -- l are the records of the full listing
  module _ (l : List Record) (same : l ≡ query_full_listing image query) where
    judged_yes : (rec : List ℕ) → rec ∈ l → true ≡ judge_query image query rec
    judged_yes rec m = sym ((query_judged image query rec).1 (rw same at m))

    judged_no : (rec : List ℕ) → (rec ∈ l → ⊥) → false ≡ judge_query image query rec
    judged_no rec n = sym (is_false (judge_query image query rec) (λ e. n (rw same ((query_judged image query rec).0 e))))

-- ------------------------------------------------------------------ one part without a name
-- the only part
record Only (l : List Part) : Type 0 where
  part : Part
  is : l ≡ part ∷ []
  no_name : part.name ≡ 0

only : (l : List Part) → is_alone_lem l ≡ true → Only l
unfolding is_alone_lem
only [] e = no_false e
only (a ∷ []) e = record { part = a; is = refl; no_name = eqb-true a.name 0 e }
only (a ∷ b ∷ l) e = no_false e

module _ (query graph : List ℕ) (alone : is_alone_lem (parts_of query) ≡ true) (plan : List ℕ) (p : PlanOf query 0 graph plan) where
  the_part : Only (parts_of query)
  the_part = only (parts_of query) alone

  part_plan : PartPlan graph plan the_part.part
  part_plan = p.is [] the_part.part [] the_part.is refl

  pub alone_ready : Ready graph plan
  alone_ready = part_plan.ready

  alone_listing : (image : List ℕ) → Called image query graph → listing (graph_in graph) (restrictor_in plan) (pattern_in_lem plan) ≡ query_full_listing image query
  alone_listing image c =
      let a : Part = the_part.part in
      let one : Alone query a = record { laid_out = laid_out image query c.granted; parts_are = the_part.is; no_name = the_part.no_name } in
      let ok = sym (one_fault query a one image) ∙ c.granted in
      rw (c.graph_is.is, part_plan.restrictor_is, part_plan.pattern_is) (sym (full_is image a.words a.restrictor ok)) ∙ sym (one_listing query a one image)

  pub alone_filled : (bookmark page₀ : List ℕ) (st : State) (page : List ℕ) (r : State) → Filled graph plan bookmark page₀ st page r → FilledOn query graph bookmark page₀ st page r
  alone_filled bookmark page₀ st page r f = record { is = λ image c. record { is = f.is ∙ ap (λ (l : List Record). place_all (sheet_of page₀ st) (after bookmark l)) (alone_listing image c); fine = f.fine } }

  pub alone_judged : (rec : List ℕ) (r : Bool) → Judges graph plan rec r → JudgedOn query graph rec r
  alone_judged rec true j = record { is = λ image c. judged_yes image query (listing (graph_in graph) (restrictor_in plan) (pattern_in_lem plan)) (alone_listing image c) rec (j.yes_is refl) }
  alone_judged rec false j = record { is = λ image c. judged_no image query (listing (graph_in graph) (restrictor_in plan) (pattern_in_lem plan)) (alone_listing image c) rec (j.no_is refl) }

-- ------------------------------------------------------------------ a join
module _ (query graph plans : List ℕ) (shape : Shape) (p : PlansOf query graph plans) (long : length plans ≡ 4 * plan_words) (s : ShapeIs (parts_of query) shape) where
  joined_listing : (image : List ℕ) → Called image query graph → joined graph (parts_of query) ≡ query_full_listing image query
  unfolding query_in
  joined_listing image c = rw c.graph_is.is (sym (query_full_is image query c.granted))

  all_planned : (image : List ℕ) → Called image query graph → AllPlanned graph plans (parts_of query)
  unfolding query_in
  all_planned image c =
      let g = query_granted image query c.granted in
      let n = layout_parts query (laid_out image query c.granted) in
      record {
        few = n.1;
        some = n.0;
        room = long;
        part = p.part;
        setting = query_setting query (query_none image query c.granted);
        free = rw c.graph_is.is (join_prefix_free image query g);
        valid = rw c.graph_is.is g.read.valid;
        short = λ r m. omega (arith, query_no_longer image query c.granted r (rw (joined_listing image c) at m));
      }

  pub join_planned : CalledBy query graph → QueryPlanned graph plans shape
  join_planned c = record { query = parts_of query; planned = all_planned c.image c.called; shape_is = s }

  pub join_filled : (bookmark page₀ : List ℕ) (st : State) (page : List ℕ) (r : State) → JoinFilled graph plans bookmark shape page₀ st page r → FilledOn query graph bookmark page₀ st page r
  join_filled bookmark page₀ st page r f = record { is = λ image c. record { is = f.is (parts_of query) (all_planned image c) s ∙ ap (λ (l : List Record). place_all (sheet_of page₀ st) (after bookmark l)) (joined_listing image c); fine = f.fine } }

  pub join_judged : (rec : List ℕ) (r : Bool) → JoinJudges graph plans rec shape r → JudgedOn query graph rec r
  join_judged rec true j = record { is = λ image c. judged_yes image query (joined graph (parts_of query)) (joined_listing image c) rec (j.yes_is refl (parts_of query) (all_planned image c) s) }
  join_judged rec false j = record { is = λ image c. judged_no image query (joined graph (parts_of query)) (joined_listing image c) rec (j.no_is refl (parts_of query) (all_planned image c) s) }

-- ------------------------------------------------------------------ the image of the call
module _ (image query graph : List ℕ) (ok : query_fixed_fault image query ≡ none) (g : GraphFilled image graph) where
  called : Called image query graph
  called = record { graph_is = g; granted = ok }

  pub call_filled : (bookmark : List ℕ) (before : Sitting) (page₀ page : List ℕ) (r : State) → WithinOn query graph bookmark before page₀ page r → WithinBy image query bookmark before page₀ page r
  call_filled bookmark before page₀ page r f = f.is image called

  pub call_judged : (rec : List ℕ) (r : Bool) → JudgedOn query graph rec r → r ≡ judge_query image query rec
  call_judged rec r j = j.is image called
