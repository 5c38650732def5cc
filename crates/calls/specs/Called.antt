-- What a call is compiled to, and what it promises.
use Rattle.std.specs.Prelude.{◌≡◌, List, [], ◌++◌, ◌∷◌, Bool, false, true, ◌+◌, ◌<◌, ◌≤◌, ℕ, eqb, get_or, length}
use Rattle.std.proofs.Math.Option.{none}
use Rattle.compiled.specs.Copies.{GraphFilled}
use Rattle.compiled.specs.Derived.{plan_words}
use Rattle.compiled.specs.Parts.{restrictor_in, table_in}
use Rattle.joins.specs.Projected.{found_in}
use Rattle.meaning.specs.Page.{after}
use Rattle.meaning.specs.QueryListing.{judge_query, query_fixed_fault, query_full_listing}
use Rattle.meaning.specs.QueryWords.{Part, parts_of}
use Rattle.page.specs.Pages.{Fine, sheet_of}
use Rattle.page.specs.declared.state.State.{State}
use Rattle.parts.specs.Pieces.{piece}
use Rattle.parts.specs.Plans.{PartPlan}
use Rattle.plan.specs.Ready.{Ready}
use Rattle.search.specs.Sheet.{Sheet, place_all, start}
use Rattle.sitting.specs.declared.total.Sitting.{Sitting}
use Rattle.typecode.specs.Codes.{code_of}

-- ------------------------------------------------------------------ what is compiled
-- graph is that of the image, and nothing refuses the image and the query
pub record Called (image query graph : List ℕ) : Type 0 where
  pub graph_is : GraphFilled image graph
  pub granted : query_fixed_fault image query ≡ none

-- of some image
pub record CalledBy (query graph : List ℕ) : Type 0 where
  pub image : List ℕ
  pub called : Called image query graph

-- what a listing asks is put into the plan: the table and the restrictor stay, and all that is derived
pub record Completed (graph plan₀ plan : List ℕ) : Type 0 where
  pub ready : Ready graph plan
  pub table_is : table_in plan ≡ table_in plan₀
  pub restrictor_is : restrictor_in plan ≡ restrictor_in plan₀

-- the plan is that of the part i
pub record PlanOf (query : List ℕ) (i : ℕ) (graph plan : List ℕ) : Type 0 where
  pub is : (l₀ : List Part) (a : Part) (l₁ : List Part) → parts_of query ≡ l₀ ++ a ∷ l₁ → length l₀ ≡ i → PartPlan graph plan a

-- the plans are those of the parts
pub record PlansOf (query graph plans : List ℕ) : Type 0 where
  pub part : (l₀ : List Part) (a : Part) (l₁ : List Part) → parts_of query ≡ l₀ ++ a ∷ l₁ → PartPlan graph (piece plan_words (length l₀) plans) a

pub record NamesOf (query names : List ℕ) : Type 0 where
  pub is : (l₀ : List Part) (a : Part) (l₁ : List Part) → parts_of query ≡ l₀ ++ a ∷ l₁ → get_or names (length l₀) 0 ≡ a.name

pub record TypesOf (query types : List ℕ) : Type 0 where
  pub is : (x : ℕ) → 1 ≤ x → x < 9 → get_or types x 0 ≡ code_of (found_in (parts_of query) x)

-- one part without a name
unfoldable pub is_alone_lem : List Part → Bool
is_alone_lem [] = false
is_alone_lem (a ∷ []) = eqb a.name 0
is_alone_lem (a ∷ b ∷ l) = false

-- ------------------------------------------------------------------ what is promised
-- the records of the full listing after the bookmark are put on the page, or counted, from the state st on
pub record FilledBy (image query bookmark page₀ : List ℕ) (st : State) (page : List ℕ) (r : State) : Type 0 where
  pub is : sheet_of page r ≡ place_all (sheet_of page₀ st) (after bookmark (query_full_listing image query))
  pub fine : Fine page r

-- for the image of the graph
pub record FilledOn (query graph bookmark page₀ : List ℕ) (st : State) (page : List ℕ) (r : State) : Type 0 where
  pub is : (image : List ℕ) → Called image query graph → FilledBy image query bookmark page₀ st page r

-- the page as full as it can be
abbrev pub full_page : List ℕ → List ℕ → List ℕ → List ℕ → Sheet
full_page image query bookmark page₀ = place_all (start true page₀) (after bookmark (query_full_listing image query))

-- where the total takes the count the page is filled; where it does not, r has the count of the full page, and the page is as it was
pub record WithinBy (image query bookmark : List ℕ) (before : Sitting) (page₀ page : List ℕ) (r : State) : Type 0 where
  pub taken : before.total + r.count ≤ 4294967295 → sheet_of page r ≡ full_page image query bookmark page₀
  pub past : 4294967295 < before.total + r.count → (page ≡ page₀) × (r.count ≡ (full_page image query bookmark page₀).count)

-- for the image of the graph
pub record WithinOn (query graph bookmark : List ℕ) (before : Sitting) (page₀ page : List ℕ) (r : State) : Type 0 where
  pub is : (image : List ℕ) → Called image query graph → WithinBy image query bookmark before page₀ page r

-- r tells whether the words are a record of the full listing, for the image of the graph
pub record JudgedOn (query graph rec : List ℕ) (r : Bool) : Type 0 where
  pub is : (image : List ℕ) → Called image query graph → r ≡ judge_query image query rec
