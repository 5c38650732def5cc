-- The records of the listing, told by the judge of their words. Assumes nothing.
use mathlib.Core.Path.{◌≡◌, refl, ap, ◌∙◌}
use mathlib.Core.Bool.{true, false}
use mathlib.Core.List.{List}
use Prim.Native.Nat.{ℕ, ◌+◌, ◌*◌, ◌≤◌}
use native.Mathlib.Omega.{arith}
use lib.ListN.{get_or, length}
use Rattle.compiled.specs.Parts.{pattern_in_lem, restrictor_in}
use Rattle.compiled.specs.Sound.{Sound}
use Rattle.compiled.specs.Words.{graph_in}
use Rattle.matcher.proofs.Listed.{Judged, judged→, judged←}
use Rattle.matcher.proofs.Opened.{matcher_opened}
use Rattle.matcher.proofs.Records.{record_length}
use Rattle.meaning.proofs.InGraph.{in_graph}
use Rattle.meaning.proofs.Listings.{listing_iff}
use Rattle.meaning.proofs.Logic.{no_false, no_true}
use Rattle.meaning.proofs.Opened.{opened}
use Rattle.meaning.proofs.Paths.{short}
use Rattle.meaning.specs.Answer.{Base, longest, simple, trail}
use Rattle.meaning.specs.Assignment.{Assignment}
use Rattle.meaning.specs.Basics.{◌∈◌}
use Rattle.meaning.specs.Graph.{Walk, len}
use Rattle.meaning.specs.Listing.{Listed, listing}
use Rattle.meaning.specs.Record.{record_of_lem}
use Rattle.plan.proofs.Granted.{encodable_in, fair_in}
use Rattle.search.proofs.Listings.{Fair, listing_short}
use Rattle.judge.specs.Judging.{Judges}

first_word : (p : Walk) (μ : Assignment) → get_or (record_of_lem p μ) 0 0 ≡ len p
unfolding matcher_opened
first_word p μ = refl

module _ (graph plan rec : List ℕ) where
  -- a no is right where no record is, a yes where one is
  pub says_no : (rec ∈ listing (graph_in graph) (restrictor_in plan) (pattern_in_lem plan) → ⊥) → Judges graph plan rec false
  says_no h = record { yes_is = λ e. no_false e; no_is = λ e. h }

  pub says_yes : rec ∈ listing (graph_in graph) (restrictor_in plan) (pattern_in_lem plan) → Judges graph plan rec true
  says_yes m = record { yes_is = λ e. m; no_is = λ e. no_true e }

  module _ (s : Sound graph plan) where
    fair : Fair (graph_in graph) (pattern_in_lem plan)
    fair = fair_in graph plan s

    listed : rec ∈ listing (graph_in graph) (restrictor_in plan) (pattern_in_lem plan) → Listed (graph_in graph) (restrictor_in plan) (pattern_in_lem plan) rec
    listed m = (listing_iff (graph_in graph) fair.valid (pattern_in_lem plan) fair.accepted.sound (restrictor_in plan) rec).0 m

    longest_few : (ρ : Base) → longest ρ (graph_in graph) ≤ 200
    unfolding opened
    longest_few trail = fair.few_edges
    longest_few simple = fair.few_nodes

    path_few : (h : Listed (graph_in graph) (restrictor_in plan) (pattern_in_lem plan) rec) → len h.path ≤ 200
    path_few h =
        let a = h.answer.base_answer in
        let ρ : Base = (restrictor_in plan).base in
        omega (arith, longest_few ρ, short (graph_in graph) ρ h.path (in_graph (graph_in graph) fair.valid (pattern_in_lem plan) h.path h.assignment a.means) a.restricted)

    pub taken : rec ∈ listing (graph_in graph) (restrictor_in plan) (pattern_in_lem plan) → Judged (graph_in graph) (restrictor_in plan) (pattern_in_lem plan) rec
    taken m = judged← (graph_in graph) (encodable_in graph plan s) (pattern_in_lem plan) fair.accepted (restrictor_in plan) rec (listed m) (omega (arith, path_few (listed m)))

    pub given : Judged (graph_in graph) (restrictor_in plan) (pattern_in_lem plan) rec → rec ∈ listing (graph_in graph) (restrictor_in plan) (pattern_in_lem plan)
    given h = (listing_iff (graph_in graph) fair.valid (pattern_in_lem plan) fair.accepted.sound (restrictor_in plan) rec).1 (judged→ (graph_in graph) (encodable_in graph plan s) (pattern_in_lem plan) fair.accepted (restrictor_in plan) rec h)

    -- what every record has
    pub room : rec ∈ listing (graph_in graph) (restrictor_in plan) (pattern_in_lem plan) → (2 * get_or rec 0 0 + 2 ≤ length rec) × (get_or rec 0 0 ≤ 200) × (length rec ≤ 20000)
    room m =
        let h = listed m in
        let f : get_or rec 0 0 ≡ len h.path = ap (λ (l : List ℕ). get_or l 0 0) h.record_is ∙ first_word h.path h.assignment in
        let l : length rec ≡ length (record_of_lem h.path h.assignment) = ap length h.record_is in
        (omega (arith, record_length h.path h.assignment), omega (arith, path_few h), listing_short (graph_in graph) (pattern_in_lem plan) fair (restrictor_in plan) rec m)
