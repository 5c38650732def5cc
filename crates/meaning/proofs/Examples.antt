-- The examples of 01 marked *, from raw bytes and words, each a query of one part, as one table and one theorem.
use mathlib.Core.Path.{◌≡◌, refl}
use mathlib.Core.List.{List, [], ◌++◌, ◌∷◌, map}
use mathlib.Core.Option.{none, some}
use Prim.Native.Nat.{◌%◌, ◌-◌, ◌/◌, ℕ}
use lib.ListN.{length, replicate}
use Rattle.meaning.proofs.Opened.{opened}
use Rattle.meaning.proofs.QueryOpened.{query_opened}
use Rattle.meaning.specs.Assignment.{count}
use Rattle.meaning.specs.FullListing.{full_listing}
use Rattle.meaning.specs.Image.{number}
use Rattle.meaning.specs.Page.{Left, Lent, join}
use Rattle.meaning.specs.QueryListing.{fixed_by, machine_of, query_fixed_fault, query_full_listing}
use Rattle.meaning.specs.QueryWords.{alone}
use Rattle.meaning.specs.Record.{Record}
use Rattle.meaning.specs.Report.{report_bytes}
use Rattle.meaning.specs.Table.{pattern_of, type_words}

-- what the listing of an example comes to
pub data Listing : Type 0 where
  refuses : ℕ → ℕ → Listing
  lists : List Record → Listing

-- image and query, the listing, the calls made and what they leave
pub record Example : Type 0 where
  pub image : List ℕ
  pub query : List ℕ
  pub listing_is : Listing
  pub calls : List Lent
  pub leaves : List Left

-- 16-bit numbers as bytes, low byte first
abbrev pub low_first : List ℕ → List ℕ
low_first [] = []
low_first (x ∷ l) = x % 256 ∷ x / 256 ∷ low_first l

abbrev pub T : List ℕ
T = low_first (16 ∷ 6 ∷ 22 ∷ 18 ∷ 40 ∷ 0 ∷ 40 ∷ 0 ∷ 10 ∷ 20 ∷ 30 ∷ 0 ∷ 1 ∷ 1 ∷ 1 ∷ 2 ∷ 1 ∷ 0 ∷ 2 ∷ 0 ∷ [])

abbrev no_nodes : List ℕ
no_nodes = low_first (16 ∷ 0 ∷ 16 ∷ 0 ∷ 16 ∷ 0 ∷ 16 ∷ 0 ∷ [])

abbrev one_loop : List ℕ
one_loop = low_first (16 ∷ 2 ∷ 18 ∷ 6 ∷ 24 ∷ 0 ∷ 24 ∷ 0 ∷ 7 ∷ 0 ∷ 0 ∷ 1 ∷ [])

abbrev one_node : List ℕ
one_node = low_first (16 ∷ 2 ∷ 18 ∷ 0 ∷ 18 ∷ 0 ∷ 18 ∷ 0 ∷ 7 ∷ [])

abbrev one_value : List ℕ
one_value = low_first (16 ∷ 2 ∷ 18 ∷ 0 ∷ 18 ∷ 0 ∷ 18 ∷ 6 ∷ 7 ∷ 0 ∷ 1 ∷ 5 ∷ [])

abbrev pub P : List ℕ
P = 2 ∷ 1 ∷ 0 ∷ 0 ∷ 0 ∷ 8 ∷ 0 ∷ 0 ∷ 1 ∷ 65535 ∷ []

abbrev both_ways : List ℕ
both_ways = 2 ∷ 1 ∷ 0 ∷ 0 ∷ 0 ∷ 3 ∷ 1 ∷ 0 ∷ 0 ∷ 0 ∷ 5 ∷ 0 ∷ 1 ∷ 0 ∷ 0 ∷ []

-- a call with a fresh sitting, a page of n words and a report of 64 bytes, all but the sitting with other contents before
abbrev pub page_of : ℕ → Lent
page_of n = record { sitting = replicate 4 0; page = replicate n 9; work = replicate 20000 3; report = replicate 64 5 }

-- a call that filled its page: the report's numbers, the page, and the lines of the sitting
abbrev pub fills : ℕ → ℕ → ℕ → List ℕ → Left
fills count used done page = record { result = 1; sitting = count ∷ replicate 3 0; page = page; work = replicate 20000 0; report = report_bytes 0 0 count used done 0 }

-- an example of which only the listing is told: one call with a page that holds it shows the same
abbrev lists_only : List ℕ → List ℕ → ℕ → List Record → Example
lists_only image pattern n records =
    record { image = image; query = alone n pattern; listing_is = lists records; calls = page_of 40 ∷ []; leaves = fills (length records) (length (join records)) 1 (join records ++ replicate (40 - length (join records)) 9) ∷ [] }

abbrev refuses_only : List ℕ → ℕ → ℕ → Example
refuses_only pattern number row =
    record { image = T; query = alone 1 pattern; listing_is = refuses number row; calls = page_of 40 ∷ []; leaves = record { result = 1; sitting = replicate 4 0; page = replicate 40 9; work = replicate 20000 3; report = report_bytes number row 0 0 0 0 } ∷ [] }

abbrev pub examples : List Example
examples =
    -- T, P: the three records; pages of 10 words: one record each twice, then 23 needing 17
    record {
      image = T;
      query = alone 1 P;
      listing_is = lists ((1 ∷ 0 ∷ 0 ∷ 1 ∷ 1 ∷ 1 ∷ 0 ∷ 0 ∷ 1 ∷ 0 ∷ []) ∷ (1 ∷ 1 ∷ 1 ∷ 2 ∷ 1 ∷ 1 ∷ 1 ∷ 1 ∷ 2 ∷ 1 ∷ []) ∷ (2 ∷ 0 ∷ 0 ∷ 1 ∷ 1 ∷ 2 ∷ 2 ∷ 1 ∷ 0 ∷ 0 ∷ 1 ∷ 0 ∷ 1 ∷ 1 ∷ 1 ∷ 2 ∷ 1 ∷ []) ∷ []);
      calls = page_of 10 ∷ page_of 10 ∷ page_of 10 ∷ [];
      leaves =
          fills 1 10 0 (1 ∷ 0 ∷ 0 ∷ 1 ∷ 1 ∷ 1 ∷ 0 ∷ 0 ∷ 1 ∷ 0 ∷ [])
          ∷ fills 1 10 0 (1 ∷ 1 ∷ 1 ∷ 2 ∷ 1 ∷ 1 ∷ 1 ∷ 1 ∷ 2 ∷ 1 ∷ [])
          ∷ record { result = 1; sitting = replicate 4 0; page = replicate 10 9; work = replicate 20000 0; report = report_bytes 23 0 0 0 0 17 }
          ∷ [];
    }
    -- no nodes: done, count 0
    ∷ lists_only no_nodes P 1 []
    -- T, an undirected edge
    ∷ lists_only T (4 ∷ 0 ∷ 0 ∷ 0 ∷ 0 ∷ []) 1 ((1 ∷ 0 ∷ 2 ∷ 2 ∷ []) ∷ (1 ∷ 2 ∷ 2 ∷ 0 ∷ []) ∷ [])
    -- a directed loop, forward or backward: one record under trail, none under simple
    ∷ lists_only one_loop both_ways 1 ((1 ∷ 0 ∷ 0 ∷ 0 ∷ 0 ∷ []) ∷ [])
    ∷ lists_only one_loop both_ways 2 []
    -- T, union of node variable 1 and forward edge variable 2
    ∷ lists_only T (1 ∷ 1 ∷ 0 ∷ 0 ∷ 0 ∷ 2 ∷ 2 ∷ 0 ∷ 0 ∷ 0 ∷ 5 ∷ 0 ∷ 1 ∷ 0 ∷ 0 ∷ []) 1 ((0 ∷ 0 ∷ 0 ∷ 65535 ∷ []) ∷ (0 ∷ 1 ∷ 1 ∷ 65535 ∷ []) ∷ (0 ∷ 2 ∷ 2 ∷ 65535 ∷ []) ∷ (1 ∷ 0 ∷ 0 ∷ 1 ∷ 65535 ∷ 0 ∷ []) ∷ (1 ∷ 1 ∷ 1 ∷ 2 ∷ 65535 ∷ 1 ∷ []) ∷ [])
    -- T, forward edge variable 1, count 0 to 0
    ∷ lists_only T (2 ∷ 1 ∷ 0 ∷ 0 ∷ 0 ∷ 8 ∷ 0 ∷ 0 ∷ 0 ∷ 0 ∷ []) 1 ((0 ∷ 0 ∷ 0 ∷ []) ∷ (0 ∷ 1 ∷ 0 ∷ []) ∷ (0 ∷ 2 ∷ 0 ∷ []) ∷ [])
    -- node variable 1 joined to edge variable 1; a repeated node; counts 2 to 1
    ∷ refuses_only (1 ∷ 1 ∷ 0 ∷ 0 ∷ 0 ∷ 2 ∷ 1 ∷ 0 ∷ 0 ∷ 0 ∷ 6 ∷ 0 ∷ 1 ∷ 0 ∷ 0 ∷ []) 16 2
    ∷ refuses_only (1 ∷ 1 ∷ 0 ∷ 0 ∷ 0 ∷ 8 ∷ 0 ∷ 0 ∷ 1 ∷ 2 ∷ []) 14 1
    ∷ refuses_only (2 ∷ 1 ∷ 0 ∷ 0 ∷ 0 ∷ 8 ∷ 0 ∷ 0 ∷ 2 ∷ 1 ∷ []) 12 1
    -- 02, Q-2: not (key 7 equals 5) on a node that lacks key 7 is unknown, and so is not of that
    ∷ lists_only one_node (1 ∷ 1 ∷ 0 ∷ 0 ∷ 0 ∷ 16 ∷ 1 ∷ 7 ∷ 5 ∷ 0 ∷ 20 ∷ 1 ∷ 0 ∷ 0 ∷ 0 ∷ 7 ∷ 0 ∷ 2 ∷ 0 ∷ 0 ∷ []) 1 []
    ∷ lists_only one_node (1 ∷ 1 ∷ 0 ∷ 0 ∷ 0 ∷ 16 ∷ 1 ∷ 7 ∷ 5 ∷ 0 ∷ 20 ∷ 1 ∷ 0 ∷ 0 ∷ 0 ∷ 20 ∷ 2 ∷ 0 ∷ 0 ∷ 0 ∷ 7 ∷ 0 ∷ 3 ∷ 0 ∷ 0 ∷ []) 1 []
    -- 02, Q-2: key 7 equals 5, or not (key 7 equals 5), keeps nothing there
    ∷ lists_only one_node (1 ∷ 1 ∷ 0 ∷ 0 ∷ 0 ∷ 16 ∷ 1 ∷ 7 ∷ 5 ∷ 0 ∷ 16 ∷ 1 ∷ 7 ∷ 5 ∷ 0 ∷ 20 ∷ 2 ∷ 0 ∷ 0 ∷ 0 ∷ 19 ∷ 1 ∷ 3 ∷ 0 ∷ 0 ∷ 7 ∷ 0 ∷ 4 ∷ 0 ∷ 0 ∷ []) 1 []
    -- 02, Q-2: nor does key 7 equals key 7, both absent, or not that
    ∷ lists_only one_node (1 ∷ 1 ∷ 0 ∷ 0 ∷ 0 ∷ 17 ∷ 1 ∷ 7 ∷ 1 ∷ 7 ∷ 17 ∷ 1 ∷ 7 ∷ 1 ∷ 7 ∷ 20 ∷ 2 ∷ 0 ∷ 0 ∷ 0 ∷ 19 ∷ 1 ∷ 3 ∷ 0 ∷ 0 ∷ 7 ∷ 0 ∷ 4 ∷ 0 ∷ 0 ∷ []) 1 []
    -- 02, Q-2: a node whose key 1 is 5 and that lacks keys 7 and 8: unknown or true; not (false and unknown)
    ∷ lists_only one_value (1 ∷ 1 ∷ 0 ∷ 0 ∷ 0 ∷ 16 ∷ 1 ∷ 7 ∷ 5 ∷ 0 ∷ 16 ∷ 1 ∷ 1 ∷ 5 ∷ 0 ∷ 19 ∷ 1 ∷ 2 ∷ 0 ∷ 0 ∷ 7 ∷ 0 ∷ 3 ∷ 0 ∷ 0 ∷ []) 1 ((0 ∷ 0 ∷ 0 ∷ []) ∷ [])
    ∷ lists_only one_value (1 ∷ 1 ∷ 0 ∷ 0 ∷ 0 ∷ 16 ∷ 1 ∷ 1 ∷ 6 ∷ 0 ∷ 17 ∷ 1 ∷ 7 ∷ 1 ∷ 8 ∷ 18 ∷ 1 ∷ 2 ∷ 0 ∷ 0 ∷ 20 ∷ 3 ∷ 0 ∷ 0 ∷ 0 ∷ 7 ∷ 0 ∷ 4 ∷ 0 ∷ 0 ∷ []) 1 ((0 ∷ 0 ∷ 0 ∷ []) ∷ [])
    ∷ []

-- beside the table, for the rule of the shortest: T, forward or undirected, 1 to unbounded, restrictor 3. From 0 to 2 only by edge 2; from 0 to 0 in 3 edges
abbrev forward_or_undirected : List ℕ
forward_or_undirected = 2 ∷ 0 ∷ 0 ∷ 0 ∷ 0 ∷ 4 ∷ 0 ∷ 0 ∷ 0 ∷ 0 ∷ 5 ∷ 0 ∷ 1 ∷ 0 ∷ 0 ∷ 8 ∷ 2 ∷ 0 ∷ 1 ∷ 65535 ∷ []

pub example_shortest : full_listing T forward_or_undirected 3 ≡
    (1 ∷ 0 ∷ 0 ∷ 1 ∷ []) ∷ (1 ∷ 0 ∷ 2 ∷ 2 ∷ []) ∷ (1 ∷ 1 ∷ 1 ∷ 2 ∷ []) ∷ (1 ∷ 2 ∷ 2 ∷ 0 ∷ []) ∷ (2 ∷ 1 ∷ 1 ∷ 2 ∷ 2 ∷ 0 ∷ []) ∷ (2 ∷ 2 ∷ 2 ∷ 0 ∷ 0 ∷ 1 ∷ [])
    ∷ (3 ∷ 0 ∷ 0 ∷ 1 ∷ 1 ∷ 2 ∷ 2 ∷ 0 ∷ []) ∷ (3 ∷ 1 ∷ 1 ∷ 2 ∷ 2 ∷ 0 ∷ 0 ∷ 1 ∷ []) ∷ (3 ∷ 2 ∷ 2 ∷ 0 ∷ 0 ∷ 1 ∷ 1 ∷ 2 ∷ []) ∷ []
unfolding opened
example_shortest = refl

abbrev pub listing_of : Example → Listing
listing_of x = elim (query_fixed_fault x.image x.query) [ some c ↦ refuses c.0 c.1 | none ↦ lists (query_full_listing x.image x.query) ]

abbrev pub computed : Example → Listing × List Left
computed x = (listing_of x, map (λ t. t.left) (machine_of (fixed_by x.image x.query) x.calls))

-- the table, as one theorem
pub examples_hold : map computed examples ≡ map (λ x. (x.listing_is, x.leaves)) examples
unfolding query_opened
examples_hold = refl

-- T, P has the types that the program prints, 1:4.2
pub example_types : type_words (pattern_of P) ≡ 4 ∷ 2 ∷ replicate 46 0
unfolding opened
example_types = refl

-- union of node variable 1 and forward edge variable 2: 1:3.1 2:3.2
pub example_maybe : type_words (pattern_of (1 ∷ 1 ∷ 0 ∷ 0 ∷ 0 ∷ 2 ∷ 2 ∷ 0 ∷ 0 ∷ 0 ∷ 5 ∷ 0 ∷ 1 ∷ 0 ∷ 0 ∷ [])) ≡ 3 ∷ 1 ∷ 0 ∷ 0 ∷ 0 ∷ 0 ∷ 3 ∷ 2 ∷ replicate 40 0
unfolding opened
example_maybe = refl
