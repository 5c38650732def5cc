-- Examples beside those of 01, one or more for each rule: they tell a definition from wrong ones that look like it.
use mathlib.Core.Path.{◌≡◌, refl}
use mathlib.Core.List.{List, [], ◌++◌, ◌∷◌, map}
use mathlib.Core.Option.{none, some}
use Prim.Native.Nat.{ℕ}
use lib.ListN.{replicate}
use Rattle.meaning.proofs.Examples.{Example, P, T, computed, lists, low_first, refuses}
use Rattle.meaning.proofs.Opened.{opened}
use Rattle.meaning.proofs.QueryOpened.{query_opened}
use Rattle.std.specs.Prelude.{if◌then◌else◌}
use Rattle.meaning.specs.Basics.{Cause, up_from}
use Rattle.meaning.specs.Image.{image_fault, number}
use Rattle.meaning.specs.Machine.{Turn}
use Rattle.meaning.specs.Operations.{read_image}
use Rattle.meaning.specs.Page.{Lent}
use Rattle.meaning.specs.QueryListing.{check_query, fixed_by, judge_record, machine_of}
use Rattle.meaning.specs.QueryWords.{alone}
use Rattle.meaning.specs.Record.{Record}
use Rattle.meaning.specs.Report.{report_bytes, reported, wide_enough_lem}

-- node 0 and edge 0 have label 1, node 1 label 2; key 7 is 5, 5, 6 on the nodes, and key 8 is 5 on edge 1
abbrev labelled_graph : List ℕ
labelled_graph = low_first (16 ∷ 6 ∷ 22 ∷ 24 ∷ 46 ∷ 12 ∷ 58 ∷ 24 ∷ 10 ∷ 20 ∷ 30 ∷ 0 ∷ 1 ∷ 1 ∷ 1 ∷ 2 ∷ 1 ∷ 0 ∷ 2 ∷ 0 ∷ 1 ∷ 1 ∷ 1 ∷ 0 ∷ 1 ∷ 1 ∷ 2 ∷ 3 ∷ 1 ∷ 0 ∷ 7 ∷ 5 ∷ 1 ∷ 7 ∷ 5 ∷ 2 ∷ 7 ∷ 6 ∷ 4 ∷ 8 ∷ 5 ∷ [])

abbrev lists_case : List ℕ → List ℕ → ℕ → List Record → Example
lists_case image pattern n records = record { image = image; query = alone n pattern; listing_is = lists records; calls = []; leaves = [] }

abbrev refuses_case : List ℕ → List ℕ → ℕ → ℕ → ℕ → Example
refuses_case image pattern n number row = record { image = image; query = alone n pattern; listing_is = refuses number row; calls = []; leaves = [] }

abbrev pub rules : List Example
rules =
    -- a backward edge with a label
    lists_case labelled_graph (3 ∷ 1 ∷ 1 ∷ 0 ∷ 0 ∷ []) 1 ((1 ∷ 1 ∷ 0 ∷ 0 ∷ 0 ∷ []) ∷ [])
    -- a node with a label
    ∷ lists_case labelled_graph (1 ∷ 1 ∷ 2 ∷ 0 ∷ 0 ∷ []) 1 ((0 ∷ 1 ∷ 1 ∷ []) ∷ [])
    -- a variable shared by a concatenation: a loop
    ∷ lists_case labelled_graph (1 ∷ 1 ∷ 0 ∷ 0 ∷ 0 ∷ 2 ∷ 2 ∷ 0 ∷ 0 ∷ 0 ∷ 6 ∷ 0 ∷ 1 ∷ 0 ∷ 0 ∷ 1 ∷ 1 ∷ 0 ∷ 0 ∷ 0 ∷ 6 ∷ 2 ∷ 3 ∷ 0 ∷ 0 ∷ []) 1 ((1 ∷ 1 ∷ 3 ∷ 1 ∷ 1 ∷ 3 ∷ []) ∷ [])
    -- two properties equal
    ∷ lists_case labelled_graph (1 ∷ 1 ∷ 0 ∷ 0 ∷ 0 ∷ 2 ∷ 0 ∷ 0 ∷ 0 ∷ 0 ∷ 6 ∷ 0 ∷ 1 ∷ 0 ∷ 0 ∷ 1 ∷ 2 ∷ 0 ∷ 0 ∷ 0 ∷ 6 ∷ 2 ∷ 3 ∷ 0 ∷ 0 ∷ 17 ∷ 1 ∷ 7 ∷ 2 ∷ 7 ∷ 7 ∷ 4 ∷ 5 ∷ 0 ∷ 0 ∷ []) 1 ((1 ∷ 0 ∷ 0 ∷ 1 ∷ 0 ∷ 1 ∷ []) ∷ (1 ∷ 1 ∷ 3 ∷ 1 ∷ 1 ∷ 1 ∷ []) ∷ [])
    -- and
    ∷ lists_case labelled_graph (1 ∷ 1 ∷ 0 ∷ 0 ∷ 0 ∷ 16 ∷ 1 ∷ 7 ∷ 5 ∷ 0 ∷ 16 ∷ 1 ∷ 7 ∷ 5 ∷ 0 ∷ 18 ∷ 1 ∷ 2 ∷ 0 ∷ 0 ∷ 7 ∷ 0 ∷ 3 ∷ 0 ∷ 0 ∷ []) 1 ((0 ∷ 0 ∷ 0 ∷ []) ∷ (0 ∷ 1 ∷ 1 ∷ []) ∷ [])
    -- or
    ∷ lists_case labelled_graph (1 ∷ 1 ∷ 0 ∷ 0 ∷ 0 ∷ 16 ∷ 1 ∷ 7 ∷ 5 ∷ 0 ∷ 16 ∷ 1 ∷ 7 ∷ 6 ∷ 0 ∷ 19 ∷ 1 ∷ 2 ∷ 0 ∷ 0 ∷ 7 ∷ 0 ∷ 3 ∷ 0 ∷ 0 ∷ []) 1 ((0 ∷ 0 ∷ 0 ∷ []) ∷ (0 ∷ 1 ∷ 1 ∷ []) ∷ (0 ∷ 2 ∷ 2 ∷ []) ∷ [])
    -- a property of an edge
    ∷ lists_case labelled_graph (2 ∷ 1 ∷ 0 ∷ 0 ∷ 0 ∷ 16 ∷ 1 ∷ 8 ∷ 5 ∷ 0 ∷ 7 ∷ 0 ∷ 1 ∷ 0 ∷ 0 ∷ []) 1 ((1 ∷ 1 ∷ 1 ∷ 2 ∷ 1 ∷ []) ∷ [])
    -- groups in a group
    ∷ lists_case T (2 ∷ 1 ∷ 0 ∷ 0 ∷ 0 ∷ 8 ∷ 0 ∷ 0 ∷ 1 ∷ 2 ∷ 8 ∷ 1 ∷ 0 ∷ 1 ∷ 65535 ∷ []) 1 ((1 ∷ 0 ∷ 0 ∷ 1 ∷ 1 ∷ 1 ∷ 0 ∷ 0 ∷ 1 ∷ 1 ∷ 1 ∷ 0 ∷ 0 ∷ 1 ∷ 0 ∷ []) ∷ (1 ∷ 1 ∷ 1 ∷ 2 ∷ 1 ∷ 1 ∷ 1 ∷ 1 ∷ 2 ∷ 1 ∷ 1 ∷ 1 ∷ 1 ∷ 2 ∷ 1 ∷ []) ∷ (2 ∷ 0 ∷ 0 ∷ 1 ∷ 1 ∷ 2 ∷ 1 ∷ 2 ∷ 0 ∷ 0 ∷ 1 ∷ 1 ∷ 2 ∷ 2 ∷ 1 ∷ 0 ∷ 0 ∷ 1 ∷ 0 ∷ 1 ∷ 1 ∷ 1 ∷ 2 ∷ 1 ∷ []) ∷ (2 ∷ 0 ∷ 0 ∷ 1 ∷ 1 ∷ 2 ∷ 2 ∷ 1 ∷ 0 ∷ 0 ∷ 1 ∷ 1 ∷ 1 ∷ 0 ∷ 0 ∷ 1 ∷ 0 ∷ 1 ∷ 1 ∷ 1 ∷ 2 ∷ 1 ∷ 1 ∷ 1 ∷ 1 ∷ 2 ∷ 1 ∷ []) ∷ [])
    -- two ways to part a path are two records
    ∷ lists_case T (2 ∷ 1 ∷ 0 ∷ 0 ∷ 0 ∷ 2 ∷ 0 ∷ 0 ∷ 0 ∷ 0 ∷ 6 ∷ 0 ∷ 1 ∷ 0 ∷ 0 ∷ 8 ∷ 2 ∷ 0 ∷ 1 ∷ 1 ∷ 2 ∷ 1 ∷ 0 ∷ 0 ∷ 0 ∷ 8 ∷ 4 ∷ 0 ∷ 2 ∷ 2 ∷ 5 ∷ 3 ∷ 5 ∷ 0 ∷ 0 ∷ []) 1 ((2 ∷ 0 ∷ 0 ∷ 1 ∷ 1 ∷ 2 ∷ 1 ∷ 2 ∷ 0 ∷ 0 ∷ 1 ∷ 1 ∷ 2 ∷ 0 ∷ []) ∷ (2 ∷ 0 ∷ 0 ∷ 1 ∷ 1 ∷ 2 ∷ 2 ∷ 1 ∷ 0 ∷ 0 ∷ 1 ∷ 0 ∷ 1 ∷ 1 ∷ 1 ∷ 2 ∷ 1 ∷ []) ∷ [])
    -- two derivations of one assignment are one record
    ∷ lists_case T (2 ∷ 1 ∷ 0 ∷ 0 ∷ 0 ∷ 2 ∷ 1 ∷ 0 ∷ 0 ∷ 0 ∷ 5 ∷ 0 ∷ 1 ∷ 0 ∷ 0 ∷ []) 1 ((1 ∷ 0 ∷ 0 ∷ 1 ∷ 0 ∷ []) ∷ (1 ∷ 1 ∷ 1 ∷ 2 ∷ 1 ∷ []) ∷ [])
    -- simple: no node twice
    ∷ lists_case T (2 ∷ 0 ∷ 0 ∷ 0 ∷ 0 ∷ 4 ∷ 0 ∷ 0 ∷ 0 ∷ 0 ∷ 5 ∷ 0 ∷ 1 ∷ 0 ∷ 0 ∷ 8 ∷ 2 ∷ 0 ∷ 1 ∷ 65535 ∷ []) 2 ((1 ∷ 0 ∷ 0 ∷ 1 ∷ []) ∷ (1 ∷ 0 ∷ 2 ∷ 2 ∷ []) ∷ (1 ∷ 1 ∷ 1 ∷ 2 ∷ []) ∷ (1 ∷ 2 ∷ 2 ∷ 0 ∷ []) ∷ (2 ∷ 0 ∷ 0 ∷ 1 ∷ 1 ∷ 2 ∷ []) ∷ (2 ∷ 1 ∷ 1 ∷ 2 ∷ 2 ∷ 0 ∷ []) ∷ (2 ∷ 2 ∷ 2 ∷ 0 ∷ 0 ∷ 1 ∷ []) ∷ [])
    -- shortest simple
    ∷ lists_case T (2 ∷ 0 ∷ 0 ∷ 0 ∷ 0 ∷ 4 ∷ 0 ∷ 0 ∷ 0 ∷ 0 ∷ 5 ∷ 0 ∷ 1 ∷ 0 ∷ 0 ∷ 8 ∷ 2 ∷ 0 ∷ 2 ∷ 65535 ∷ []) 4 ((2 ∷ 0 ∷ 0 ∷ 1 ∷ 1 ∷ 2 ∷ []) ∷ (2 ∷ 1 ∷ 1 ∷ 2 ∷ 2 ∷ 0 ∷ []) ∷ (2 ∷ 2 ∷ 2 ∷ 0 ∷ 0 ∷ 1 ∷ []) ∷ [])
    -- a shared variable that is Maybe in one part
    ∷ refuses_case T (1 ∷ 1 ∷ 0 ∷ 0 ∷ 0 ∷ 2 ∷ 0 ∷ 0 ∷ 0 ∷ 0 ∷ 5 ∷ 0 ∷ 1 ∷ 0 ∷ 0 ∷ 1 ∷ 1 ∷ 0 ∷ 0 ∷ 0 ∷ 6 ∷ 2 ∷ 3 ∷ 0 ∷ 0 ∷ []) 1 16 4
    -- a condition on a group variable
    ∷ refuses_case T (2 ∷ 1 ∷ 0 ∷ 0 ∷ 0 ∷ 8 ∷ 0 ∷ 0 ∷ 1 ∷ 2 ∷ 16 ∷ 1 ∷ 7 ∷ 5 ∷ 0 ∷ 7 ∷ 1 ∷ 2 ∷ 0 ∷ 0 ∷ []) 1 16 3
    -- a body that is a union of a node and an edge
    ∷ refuses_case T (1 ∷ 0 ∷ 0 ∷ 0 ∷ 0 ∷ 2 ∷ 0 ∷ 0 ∷ 0 ∷ 0 ∷ 5 ∷ 0 ∷ 1 ∷ 0 ∷ 0 ∷ 8 ∷ 2 ∷ 0 ∷ 1 ∷ 2 ∷ []) 1 14 3
    -- a body whose least count is 0
    ∷ refuses_case T (2 ∷ 0 ∷ 0 ∷ 0 ∷ 0 ∷ 8 ∷ 0 ∷ 0 ∷ 0 ∷ 1 ∷ 8 ∷ 1 ∷ 0 ∷ 1 ∷ 65535 ∷ []) 1 14 2
    -- a third repetition around two
    ∷ refuses_case T (2 ∷ 0 ∷ 0 ∷ 0 ∷ 0 ∷ 8 ∷ 0 ∷ 0 ∷ 1 ∷ 1 ∷ 8 ∷ 1 ∷ 0 ∷ 1 ∷ 1 ∷ 8 ∷ 2 ∷ 0 ∷ 1 ∷ 1 ∷ []) 1 15 3
    -- a third repetition with a condition between
    ∷ refuses_case T (2 ∷ 1 ∷ 0 ∷ 0 ∷ 0 ∷ 8 ∷ 0 ∷ 0 ∷ 1 ∷ 1 ∷ 1 ∷ 2 ∷ 0 ∷ 0 ∷ 0 ∷ 6 ∷ 2 ∷ 1 ∷ 0 ∷ 0 ∷ 16 ∷ 2 ∷ 7 ∷ 5 ∷ 0 ∷ 7 ∷ 3 ∷ 4 ∷ 0 ∷ 0 ∷ 8 ∷ 5 ∷ 0 ∷ 1 ∷ 1 ∷ 8 ∷ 6 ∷ 0 ∷ 1 ∷ 1 ∷ []) 1 15 7
    -- a row named twice by one row
    ∷ refuses_case T (2 ∷ 0 ∷ 0 ∷ 0 ∷ 0 ∷ 5 ∷ 0 ∷ 0 ∷ 0 ∷ 0 ∷ []) 1 13 0
    -- a last row that is a condition
    ∷ refuses_case T (16 ∷ 1 ∷ 7 ∷ 5 ∷ 0 ∷ []) 1 13 0
    -- a number not listed for the kind
    ∷ refuses_case T (1 ∷ 1 ∷ 0 ∷ 0 ∷ 3 ∷ []) 1 12 0
    -- a least count of 65535
    ∷ refuses_case T (2 ∷ 0 ∷ 0 ∷ 0 ∷ 0 ∷ 8 ∷ 0 ∷ 0 ∷ 65535 ∷ 65535 ∷ []) 1 12 1
    -- six words
    ∷ refuses_case T (2 ∷ 0 ∷ 0 ∷ 0 ∷ 0 ∷ 0 ∷ []) 1 11 0
    -- restrictor 5
    ∷ refuses_case T (2 ∷ 0 ∷ 0 ∷ 0 ∷ 0 ∷ []) 5 21 0
    -- restrictor 5 and six words
    ∷ refuses_case T (2 ∷ 0 ∷ 0 ∷ 0 ∷ 0 ∷ 0 ∷ []) 5 11 0
    ∷ []

pub rules_hold : map computed rules ≡ map (λ x. (x.listing_is, x.leaves)) rules
unfolding query_opened
rules_hold = refl

-- ------------------------------------------------------------------ images
pub record ImageCase : Type 0 where
  pub image : List ℕ
  pub cause_is : Cause

abbrev pub image_cases : List ImageCase
image_cases =
    -- under 16 bytes
    record { image = 16 ∷ 0 ∷ 6 ∷ 0 ∷ 22 ∷ 0 ∷ 18 ∷ 0 ∷ 40 ∷ 0 ∷ 0 ∷ 0 ∷ 40 ∷ 0 ∷ 0 ∷ []; cause_is = some (1, 0) }
    -- an offset that is not the end of the section before
    ∷ record { image = 16 ∷ 0 ∷ 6 ∷ 0 ∷ 24 ∷ 0 ∷ 6 ∷ 0 ∷ 28 ∷ 0 ∷ 0 ∷ 0 ∷ 28 ∷ 0 ∷ 0 ∷ 0 ∷ 10 ∷ 0 ∷ 20 ∷ 0 ∷ 30 ∷ 0 ∷ 0 ∷ 0 ∷ 1 ∷ 0 ∷ 1 ∷ 0 ∷ []; cause_is = some (2, 0) }
    -- a length that is not whole rows
    ∷ record { image = 16 ∷ 0 ∷ 2 ∷ 0 ∷ 18 ∷ 0 ∷ 4 ∷ 0 ∷ 22 ∷ 0 ∷ 0 ∷ 0 ∷ 22 ∷ 0 ∷ 0 ∷ 0 ∷ 7 ∷ 0 ∷ 0 ∷ 0 ∷ 0 ∷ 0 ∷ []; cause_is = some (2, 0) }
    -- equal node numbers
    ∷ record { image = 16 ∷ 0 ∷ 4 ∷ 0 ∷ 20 ∷ 0 ∷ 0 ∷ 0 ∷ 20 ∷ 0 ∷ 0 ∷ 0 ∷ 20 ∷ 0 ∷ 0 ∷ 0 ∷ 10 ∷ 0 ∷ 10 ∷ 0 ∷ []; cause_is = some (4, 1) }
    -- an end that is not below N
    ∷ record { image = 16 ∷ 0 ∷ 4 ∷ 0 ∷ 20 ∷ 0 ∷ 12 ∷ 0 ∷ 32 ∷ 0 ∷ 0 ∷ 0 ∷ 32 ∷ 0 ∷ 0 ∷ 0 ∷ 10 ∷ 0 ∷ 20 ∷ 0 ∷ 0 ∷ 0 ∷ 1 ∷ 0 ∷ 1 ∷ 0 ∷ 0 ∷ 0 ∷ 2 ∷ 0 ∷ 1 ∷ 0 ∷ []; cause_is = some (5, 1) }
    -- undirected, first end above second
    ∷ record { image = 16 ∷ 0 ∷ 4 ∷ 0 ∷ 20 ∷ 0 ∷ 6 ∷ 0 ∷ 26 ∷ 0 ∷ 0 ∷ 0 ∷ 26 ∷ 0 ∷ 0 ∷ 0 ∷ 10 ∷ 0 ∷ 20 ∷ 0 ∷ 1 ∷ 0 ∷ 0 ∷ 0 ∷ 0 ∷ 0 ∷ []; cause_is = some (5, 0) }
    -- direction 2
    ∷ record { image = 16 ∷ 0 ∷ 4 ∷ 0 ∷ 20 ∷ 0 ∷ 6 ∷ 0 ∷ 26 ∷ 0 ∷ 0 ∷ 0 ∷ 26 ∷ 0 ∷ 0 ∷ 0 ∷ 10 ∷ 0 ∷ 20 ∷ 0 ∷ 0 ∷ 0 ∷ 1 ∷ 0 ∷ 2 ∷ 0 ∷ []; cause_is = some (5, 0) }
    -- label 0
    ∷ record { image = 16 ∷ 0 ∷ 2 ∷ 0 ∷ 18 ∷ 0 ∷ 0 ∷ 0 ∷ 18 ∷ 0 ∷ 4 ∷ 0 ∷ 22 ∷ 0 ∷ 0 ∷ 0 ∷ 10 ∷ 0 ∷ 0 ∷ 0 ∷ 0 ∷ 0 ∷ []; cause_is = some (6, 0) }
    -- equal label rows
    ∷ record { image = 16 ∷ 0 ∷ 2 ∷ 0 ∷ 18 ∷ 0 ∷ 0 ∷ 0 ∷ 18 ∷ 0 ∷ 8 ∷ 0 ∷ 26 ∷ 0 ∷ 0 ∷ 0 ∷ 10 ∷ 0 ∷ 0 ∷ 0 ∷ 1 ∷ 0 ∷ 0 ∷ 0 ∷ 1 ∷ 0 ∷ []; cause_is = some (6, 1) }
    -- a label of no element
    ∷ record { image = 16 ∷ 0 ∷ 2 ∷ 0 ∷ 18 ∷ 0 ∷ 0 ∷ 0 ∷ 18 ∷ 0 ∷ 4 ∷ 0 ∷ 22 ∷ 0 ∷ 0 ∷ 0 ∷ 10 ∷ 0 ∷ 1 ∷ 0 ∷ 1 ∷ 0 ∷ []; cause_is = some (6, 0) }
    -- two values under one key
    ∷ record { image = 16 ∷ 0 ∷ 2 ∷ 0 ∷ 18 ∷ 0 ∷ 0 ∷ 0 ∷ 18 ∷ 0 ∷ 0 ∷ 0 ∷ 18 ∷ 0 ∷ 12 ∷ 0 ∷ 10 ∷ 0 ∷ 0 ∷ 0 ∷ 7 ∷ 0 ∷ 1 ∷ 0 ∷ 0 ∷ 0 ∷ 7 ∷ 0 ∷ 2 ∷ 0 ∷ []; cause_is = some (7, 1) }
    -- accepted
    ∷ record { image = 16 ∷ 0 ∷ 4 ∷ 0 ∷ 20 ∷ 0 ∷ 12 ∷ 0 ∷ 32 ∷ 0 ∷ 12 ∷ 0 ∷ 44 ∷ 0 ∷ 12 ∷ 0 ∷ 10 ∷ 0 ∷ 20 ∷ 0 ∷ 0 ∷ 0 ∷ 1 ∷ 0 ∷ 0 ∷ 0 ∷ 1 ∷ 0 ∷ 1 ∷ 0 ∷ 1 ∷ 0 ∷ 0 ∷ 0 ∷ 1 ∷ 0 ∷ 0 ∷ 0 ∷ 2 ∷ 0 ∷ 3 ∷ 0 ∷ 1 ∷ 0 ∷ 0 ∷ 0 ∷ 7 ∷ 0 ∷ 1 ∷ 0 ∷ 0 ∷ 0 ∷ 8 ∷ 0 ∷ 1 ∷ 0 ∷ []; cause_is = none }
    ∷ []

pub images_hold : map (λ x. image_fault x.image) image_cases ≡ map (λ x. x.cause_is) image_cases
unfolding opened
images_hold = refl

-- ------------------------------------------------------------------ pages
-- T, a path of two edges parted into one factor or into two: records of 14 and 17 words
abbrev two_partings : List ℕ
two_partings = 2 ∷ 1 ∷ 0 ∷ 0 ∷ 0 ∷ 2 ∷ 0 ∷ 0 ∷ 0 ∷ 0 ∷ 6 ∷ 0 ∷ 1 ∷ 0 ∷ 0 ∷ 8 ∷ 2 ∷ 0 ∷ 1 ∷ 1 ∷ 2 ∷ 1 ∷ 0 ∷ 0 ∷ 0 ∷ 8 ∷ 4 ∷ 0 ∷ 2 ∷ 2 ∷ 5 ∷ 3 ∷ 5 ∷ 0 ∷ 0 ∷ []

-- a directed cycle of three: such records of 14, 17, 14, 17, 14, 17 words
abbrev cycle : List ℕ
cycle = low_first (16 ∷ 6 ∷ 22 ∷ 18 ∷ 40 ∷ 0 ∷ 40 ∷ 0 ∷ 10 ∷ 20 ∷ 30 ∷ 0 ∷ 1 ∷ 1 ∷ 1 ∷ 2 ∷ 1 ∷ 2 ∷ 0 ∷ 1 ∷ [])

-- a page of n words, a work area of w words, a report of b bytes
abbrev lent : ℕ → ℕ → ℕ → Lent
lent n w b = record { sitting = replicate 4 0; page = replicate n 9; work = replicate w 3; report = replicate b 5 }

-- what the calls report: nothing, or the numbers 0 to 5
abbrev numbers_of : Turn → List ℕ
numbers_of t = if wide_enough_lem t.left.report then map (λ i. reported i t.left.report) (up_from 6 0) else []

-- of 28 words the first record leaves 14, into which the third would go but the second does not; then a page of no words, a work area too short,
-- a report too short, all but one word, and the rest; after done, done again with count 0
pub pages_hold : map numbers_of (machine_of (fixed_by cycle (alone 1 two_partings)) (lent 28 20000 64 ∷ lent 0 20000 64 ∷ lent 40 19999 64 ∷ lent 40 20000 63 ∷ lent 30 20000 64 ∷ lent 61 20003 70 ∷ lent 14 20000 64 ∷ lent 17 20000 64 ∷ lent 0 20000 64 ∷ []))
    ≡ (0 ∷ 0 ∷ 1 ∷ 14 ∷ 0 ∷ 0 ∷ []) ∷ (23 ∷ 0 ∷ 0 ∷ 0 ∷ 0 ∷ 17 ∷ []) ∷ (22 ∷ 0 ∷ 0 ∷ 0 ∷ 0 ∷ 0 ∷ []) ∷ [] ∷ (0 ∷ 0 ∷ 1 ∷ 17 ∷ 0 ∷ 0 ∷ []) ∷ (0 ∷ 0 ∷ 3 ∷ 45 ∷ 0 ∷ 0 ∷ [])
    ∷ (23 ∷ 0 ∷ 0 ∷ 0 ∷ 0 ∷ 17 ∷ []) ∷ (0 ∷ 0 ∷ 1 ∷ 17 ∷ 1 ∷ 0 ∷ []) ∷ (0 ∷ 0 ∷ 0 ∷ 0 ∷ 1 ∷ 0 ∷ []) ∷ []
unfolding query_opened
pages_hold = refl

-- ------------------------------------------------------------------ the other operations
pub check_holds : check_query (alone 1 P) (replicate 74 9) (replicate 66 5) ≡ record { result = 1; types = 4 ∷ 2 ∷ (replicate 70 0 ++ (9 ∷ 9 ∷ [])); report = replicate 64 0 ++ (5 ∷ 5 ∷ []) }
unfolding query_opened
check_holds = refl

pub check_17 : check_query (alone 1 P) (replicate 71 9) (replicate 64 5) ≡ record { result = 1; types = replicate 71 9; report = 17 ∷ replicate 63 0 }
unfolding query_opened
check_17 = refl

pub check_11 : check_query (alone 1 []) (replicate 72 9) (replicate 64 5) ≡ record { result = 1; types = replicate 72 0; report = 11 ∷ replicate 63 0 }
unfolding query_opened
check_11 = refl

pub judge_yes : judge_record T (alone 1 P) (1 ∷ 0 ∷ 0 ∷ 1 ∷ 1 ∷ 1 ∷ 0 ∷ 0 ∷ 1 ∷ 0 ∷ []) (replicate 20001 3) (replicate 64 5) ≡ record { result = 1; work = replicate 20000 0 ++ (3 ∷ []); report = report_bytes 0 0 1 0 0 0 }
unfolding query_opened
judge_yes = refl

pub judge_no : judge_record T (alone 1 P) (1 ∷ 0 ∷ 0 ∷ 1 ∷ 1 ∷ 1 ∷ 0 ∷ 0 ∷ 1 ∷ 1 ∷ []) (replicate 20000 3) (replicate 64 5) ≡ record { result = 1; work = replicate 20000 0; report = replicate 64 0 }
unfolding query_opened
judge_no = refl

pub judge_22 : judge_record T (alone 1 P) [] (replicate 19999 3) (replicate 64 5) ≡ record { result = 1; work = replicate 19999 3; report = 22 ∷ replicate 63 0 }
unfolding query_opened
judge_22 = refl

pub read_short : read_image T (replicate 63 5) ≡ record { result = 0; report = replicate 63 5 }
unfolding opened
read_short = refl

pub read_row : read_image (low_first (16 ∷ 4 ∷ 20 ∷ 0 ∷ 20 ∷ 0 ∷ 20 ∷ 0 ∷ 300 ∷ 300 ∷ [])) (replicate 64 5) ≡ record { result = 1; report = report_bytes 4 1 0 0 0 0 }
unfolding opened
read_row = refl
