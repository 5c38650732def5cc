-- Q-1: examples of joins, from raw bytes and words, as one table and one theorem; what the checker says of such queries, and the judge.
use mathlib.Core.Path.{◌≡◌, refl}
use mathlib.Core.List.{List, [], ◌++◌, ◌∷◌, map}
use Prim.Native.Nat.{◌-◌, ℕ}
use lib.ListN.{length, replicate}
use Rattle.meaning.proofs.Examples.{Example, T, computed, fills, lists, low_first, page_of, refuses}
use Rattle.meaning.proofs.QueryOpened.{query_opened}
use Rattle.meaning.specs.Operations.{CheckLeft}
use Rattle.meaning.specs.Page.{join}
use Rattle.meaning.specs.QueryListing.{check_query, judge_record}
use Rattle.meaning.specs.Record.{Record}
use Rattle.meaning.specs.Report.{report_bytes}

-- directed edges 0 to 2, 0 to 1 and 1 to 2; node 1 has label 5
abbrev triangle : List ℕ
triangle = low_first (16 ∷ 6 ∷ 22 ∷ 18 ∷ 40 ∷ 4 ∷ 44 ∷ 0 ∷ 1 ∷ 2 ∷ 3 ∷ 0 ∷ 2 ∷ 1 ∷ 0 ∷ 1 ∷ 1 ∷ 1 ∷ 2 ∷ 1 ∷ 1 ∷ 5 ∷ [])

-- a directed edge from 0 to 1
abbrev one_edge : List ℕ
one_edge = low_first (16 ∷ 4 ∷ 20 ∷ 6 ∷ 26 ∷ 0 ∷ 26 ∷ 0 ∷ 1 ∷ 2 ∷ 0 ∷ 1 ∷ 1 ∷ [])

-- forward edge variable 3, named 12, and an undirected edge, named 9
abbrev named_paths : List ℕ
named_paths = 2 ∷ 1 ∷ 12 ∷ 5 ∷ 1 ∷ 9 ∷ 5 ∷ 2 ∷ 3 ∷ 0 ∷ 0 ∷ 0 ∷ 4 ∷ 0 ∷ 0 ∷ 0 ∷ 0 ∷ []

-- forward from node variable 1, and undirected to it
abbrev shared_node : List ℕ
shared_node = 2 ∷ 1 ∷ 0 ∷ 15 ∷ 1 ∷ 0 ∷ 15 ∷ 1 ∷ 1 ∷ 0 ∷ 0 ∷ 0 ∷ 2 ∷ 0 ∷ 0 ∷ 0 ∷ 0 ∷ 6 ∷ 0 ∷ 1 ∷ 0 ∷ 0 ∷ 4 ∷ 0 ∷ 0 ∷ 0 ∷ 0 ∷ 1 ∷ 1 ∷ 0 ∷ 0 ∷ 0 ∷ 6 ∷ 0 ∷ 1 ∷ 0 ∷ 0 ∷ []

-- an example of which only the listing is told: one call with a page that holds it shows the same
abbrev lists_case : List ℕ → List ℕ → List Record → Example
lists_case image query records =
    record { image = image; query = query; listing_is = lists records; calls = page_of 40 ∷ []; leaves = fills (length records) (length (join records)) 1 (join records ++ replicate (40 - length (join records)) 9) ∷ [] }

abbrev lists_only : List ℕ → List ℕ → List Record → Example
lists_only image query records = record { image = image; query = query; listing_is = lists records; calls = []; leaves = [] }

abbrev refuses_case : List ℕ → ℕ → ℕ → Example
refuses_case query number row = record { image = T; query = query; listing_is = refuses number row; calls = []; leaves = [] }

abbrev pub query_examples : List Example
query_examples =
    -- two parts, nothing shared: every pair, the paths in part order, then variable 1
    lists_case T (2 ∷ 1 ∷ 0 ∷ 5 ∷ 1 ∷ 0 ∷ 5 ∷ 2 ∷ 1 ∷ 0 ∷ 0 ∷ 0 ∷ 4 ∷ 0 ∷ 0 ∷ 0 ∷ 0 ∷ []) ((1 ∷ 0 ∷ 0 ∷ 1 ∷ 1 ∷ 0 ∷ 2 ∷ 2 ∷ 0 ∷ []) ∷ (1 ∷ 0 ∷ 0 ∷ 1 ∷ 1 ∷ 2 ∷ 2 ∷ 0 ∷ 0 ∷ []) ∷ (1 ∷ 1 ∷ 1 ∷ 2 ∷ 1 ∷ 0 ∷ 2 ∷ 2 ∷ 1 ∷ []) ∷ (1 ∷ 1 ∷ 1 ∷ 2 ∷ 1 ∷ 2 ∷ 2 ∷ 0 ∷ 1 ∷ []) ∷ [])
    -- a shared node: the forward edge starts where the undirected one ends
    ∷ lists_case T shared_node ((1 ∷ 0 ∷ 0 ∷ 1 ∷ 1 ∷ 2 ∷ 2 ∷ 0 ∷ 0 ∷ []) ∷ [])
    -- path names: values by rising variable, 3, then 9 (the second part's path), then 12 (the first's); on pages of 20, 40, 16 and 17 words
    ∷ record {
      image = T;
      query = named_paths;
      listing_is = lists ((1 ∷ 0 ∷ 0 ∷ 1 ∷ 1 ∷ 0 ∷ 2 ∷ 2 ∷ 0 ∷ 1 ∷ 0 ∷ 2 ∷ 2 ∷ 1 ∷ 0 ∷ 0 ∷ 1 ∷ []) ∷ (1 ∷ 0 ∷ 0 ∷ 1 ∷ 1 ∷ 2 ∷ 2 ∷ 0 ∷ 0 ∷ 1 ∷ 2 ∷ 2 ∷ 0 ∷ 1 ∷ 0 ∷ 0 ∷ 1 ∷ []) ∷ (1 ∷ 1 ∷ 1 ∷ 2 ∷ 1 ∷ 0 ∷ 2 ∷ 2 ∷ 1 ∷ 1 ∷ 0 ∷ 2 ∷ 2 ∷ 1 ∷ 1 ∷ 1 ∷ 2 ∷ []) ∷ (1 ∷ 1 ∷ 1 ∷ 2 ∷ 1 ∷ 2 ∷ 2 ∷ 0 ∷ 1 ∷ 1 ∷ 2 ∷ 2 ∷ 0 ∷ 1 ∷ 1 ∷ 1 ∷ 2 ∷ []) ∷ []);
      calls = page_of 20 ∷ page_of 40 ∷ page_of 16 ∷ page_of 17 ∷ [];
      leaves =
          fills 1 17 0 (1 ∷ 0 ∷ 0 ∷ 1 ∷ 1 ∷ 0 ∷ 2 ∷ 2 ∷ 0 ∷ 1 ∷ 0 ∷ 2 ∷ 2 ∷ 1 ∷ 0 ∷ 0 ∷ 1 ∷ 9 ∷ 9 ∷ 9 ∷ [])
          ∷ fills 2 34 0 (1 ∷ 0 ∷ 0 ∷ 1 ∷ 1 ∷ 2 ∷ 2 ∷ 0 ∷ 0 ∷ 1 ∷ 2 ∷ 2 ∷ 0 ∷ 1 ∷ 0 ∷ 0 ∷ 1 ∷ 1 ∷ 1 ∷ 1 ∷ 2 ∷ 1 ∷ 0 ∷ 2 ∷ 2 ∷ 1 ∷ 1 ∷ 0 ∷ 2 ∷ 2 ∷ 1 ∷ 1 ∷ 1 ∷ 2 ∷ 9 ∷ 9 ∷ 9 ∷ 9 ∷ 9 ∷ 9 ∷ [])
          ∷ record { result = 1; sitting = replicate 4 0; page = replicate 16 9; work = replicate 20000 0; report = report_bytes 23 0 0 0 0 17 }
          ∷ fills 1 17 1 (1 ∷ 1 ∷ 1 ∷ 2 ∷ 1 ∷ 2 ∷ 2 ∷ 0 ∷ 1 ∷ 1 ∷ 2 ∷ 2 ∷ 0 ∷ 1 ∷ 1 ∷ 1 ∷ 2 ∷ [])
          ∷ [];
    }
    -- shortest is of the part: from 0 to 2 it is edge 0, which misses node 1; the way over node 1 is no answer of the first part
    ∷ lists_case triangle (2 ∷ 3 ∷ 0 ∷ 55 ∷ 1 ∷ 0 ∷ 5 ∷ 1 ∷ 1 ∷ 0 ∷ 0 ∷ 0 ∷ 2 ∷ 0 ∷ 0 ∷ 0 ∷ 0 ∷ 8 ∷ 1 ∷ 0 ∷ 0 ∷ 65535 ∷ 6 ∷ 0 ∷ 2 ∷ 0 ∷ 0 ∷ 1 ∷ 2 ∷ 0 ∷ 0 ∷ 0 ∷ 6 ∷ 3 ∷ 4 ∷ 0 ∷ 0 ∷ 2 ∷ 0 ∷ 0 ∷ 0 ∷ 0 ∷ 8 ∷ 6 ∷ 0 ∷ 0 ∷ 65535 ∷ 6 ∷ 5 ∷ 7 ∷ 0 ∷ 0 ∷ 1 ∷ 3 ∷ 0 ∷ 0 ∷ 0 ∷ 6 ∷ 8 ∷ 9 ∷ 0 ∷ 0 ∷ 1 ∷ 2 ∷ 5 ∷ 0 ∷ 0 ∷ []) ((0 ∷ 1 ∷ 0 ∷ 1 ∷ 1 ∷ 1 ∷ 1 ∷ []) ∷ (1 ∷ 0 ∷ 1 ∷ 1 ∷ 0 ∷ 1 ∷ 0 ∷ 1 ∷ 1 ∷ []) ∷ (1 ∷ 1 ∷ 2 ∷ 2 ∷ 0 ∷ 1 ∷ 1 ∷ 1 ∷ 2 ∷ []) ∷ [])
    -- a group in two parts: equal types, yet neither Node nor Edge
    ∷ refuses_case (2 ∷ 1 ∷ 0 ∷ 10 ∷ 1 ∷ 0 ∷ 10 ∷ 2 ∷ 1 ∷ 0 ∷ 0 ∷ 0 ∷ 8 ∷ 0 ∷ 0 ∷ 1 ∷ 65535 ∷ 2 ∷ 1 ∷ 0 ∷ 0 ∷ 0 ∷ 8 ∷ 0 ∷ 0 ∷ 1 ∷ 65535 ∷ []) 33 0
    -- 16 of part 2 before 33 of parts 1 and 3
    ∷ refuses_case (3 ∷ 1 ∷ 0 ∷ 5 ∷ 1 ∷ 0 ∷ 15 ∷ 1 ∷ 0 ∷ 5 ∷ 2 ∷ 1 ∷ 0 ∷ 0 ∷ 0 ∷ 1 ∷ 2 ∷ 0 ∷ 0 ∷ 0 ∷ 2 ∷ 2 ∷ 0 ∷ 0 ∷ 0 ∷ 6 ∷ 0 ∷ 1 ∷ 0 ∷ 0 ∷ 1 ∷ 1 ∷ 0 ∷ 0 ∷ 0 ∷ []) 16 2
    -- 32 before 11: name 9 twice, and both patterns without words
    ∷ refuses_case (2 ∷ 1 ∷ 9 ∷ 0 ∷ 1 ∷ 9 ∷ 0 ∷ []) 32 0
    -- 31 before 32: name 9 twice, and a word too many
    ∷ refuses_case (2 ∷ 1 ∷ 9 ∷ 0 ∷ 1 ∷ 9 ∷ 0 ∷ 0 ∷ []) 31 0
    -- five parts
    ∷ refuses_case (5 ∷ 1 ∷ 0 ∷ 5 ∷ 1 ∷ 0 ∷ 5 ∷ 1 ∷ 0 ∷ 5 ∷ 1 ∷ 0 ∷ 5 ∷ 1 ∷ 0 ∷ 5 ∷ 4 ∷ 0 ∷ 0 ∷ 0 ∷ 0 ∷ 4 ∷ 0 ∷ 0 ∷ 0 ∷ 0 ∷ 4 ∷ 0 ∷ 0 ∷ 0 ∷ 0 ∷ 4 ∷ 0 ∷ 0 ∷ 0 ∷ 0 ∷ 4 ∷ 0 ∷ 0 ∷ 0 ∷ 0 ∷ []) 31 0
    -- one word too many
    ∷ refuses_case (2 ∷ 1 ∷ 0 ∷ 5 ∷ 1 ∷ 0 ∷ 5 ∷ 2 ∷ 3 ∷ 0 ∷ 0 ∷ 0 ∷ 4 ∷ 0 ∷ 0 ∷ 0 ∷ 0 ∷ 0 ∷ []) 31 0
    -- one part with a name: its path again at the end
    ∷ lists_case T (1 ∷ 1 ∷ 9 ∷ 5 ∷ 2 ∷ 1 ∷ 0 ∷ 0 ∷ 0 ∷ []) ((1 ∷ 0 ∷ 0 ∷ 1 ∷ 0 ∷ 1 ∷ 0 ∷ 0 ∷ 1 ∷ []) ∷ (1 ∷ 1 ∷ 1 ∷ 2 ∷ 1 ∷ 1 ∷ 1 ∷ 1 ∷ 2 ∷ []) ∷ [])
    -- a chain through a shared node, names falling, restrictors 1 and 2
    ∷ lists_case T (2 ∷ 1 ∷ 12 ∷ 25 ∷ 2 ∷ 9 ∷ 25 ∷ 1 ∷ 1 ∷ 0 ∷ 0 ∷ 0 ∷ 2 ∷ 2 ∷ 0 ∷ 0 ∷ 0 ∷ 6 ∷ 0 ∷ 1 ∷ 0 ∷ 0 ∷ 1 ∷ 3 ∷ 0 ∷ 0 ∷ 0 ∷ 6 ∷ 2 ∷ 3 ∷ 0 ∷ 0 ∷ 1 ∷ 3 ∷ 0 ∷ 0 ∷ 0 ∷ 2 ∷ 4 ∷ 0 ∷ 0 ∷ 0 ∷ 6 ∷ 0 ∷ 1 ∷ 0 ∷ 0 ∷ 1 ∷ 5 ∷ 0 ∷ 0 ∷ 0 ∷ 6 ∷ 2 ∷ 3 ∷ 0 ∷ 0 ∷ []) ((1 ∷ 0 ∷ 0 ∷ 1 ∷ 1 ∷ 1 ∷ 1 ∷ 2 ∷ 0 ∷ 0 ∷ 1 ∷ 1 ∷ 2 ∷ 1 ∷ 1 ∷ 1 ∷ 2 ∷ 1 ∷ 0 ∷ 0 ∷ 1 ∷ []) ∷ [])
    -- a shared edge: the same one in both, walked either way
    ∷ lists_case T (2 ∷ 1 ∷ 0 ∷ 5 ∷ 1 ∷ 0 ∷ 5 ∷ 2 ∷ 1 ∷ 0 ∷ 0 ∷ 0 ∷ 3 ∷ 1 ∷ 0 ∷ 0 ∷ 0 ∷ []) ((1 ∷ 0 ∷ 0 ∷ 1 ∷ 1 ∷ 1 ∷ 0 ∷ 0 ∷ 0 ∷ []) ∷ (1 ∷ 1 ∷ 1 ∷ 2 ∷ 1 ∷ 2 ∷ 1 ∷ 1 ∷ 1 ∷ []) ∷ [])
    -- a variable that the second and the third part share, and not the first
    ∷ lists_only T (3 ∷ 1 ∷ 0 ∷ 5 ∷ 1 ∷ 0 ∷ 5 ∷ 1 ∷ 0 ∷ 5 ∷ 4 ∷ 0 ∷ 0 ∷ 0 ∷ 0 ∷ 2 ∷ 1 ∷ 0 ∷ 0 ∷ 0 ∷ 2 ∷ 1 ∷ 0 ∷ 0 ∷ 0 ∷ []) ((1 ∷ 0 ∷ 2 ∷ 2 ∷ 1 ∷ 0 ∷ 0 ∷ 1 ∷ 1 ∷ 0 ∷ 0 ∷ 1 ∷ 0 ∷ []) ∷ (1 ∷ 0 ∷ 2 ∷ 2 ∷ 1 ∷ 1 ∷ 1 ∷ 2 ∷ 1 ∷ 1 ∷ 1 ∷ 2 ∷ 1 ∷ []) ∷ (1 ∷ 2 ∷ 2 ∷ 0 ∷ 1 ∷ 0 ∷ 0 ∷ 1 ∷ 1 ∷ 0 ∷ 0 ∷ 1 ∷ 0 ∷ []) ∷ (1 ∷ 2 ∷ 2 ∷ 0 ∷ 1 ∷ 1 ∷ 1 ∷ 2 ∷ 1 ∷ 1 ∷ 1 ∷ 2 ∷ 1 ∷ []) ∷ [])
    -- a group and a Maybe beside each other, values by rising variable over both parts
    ∷ lists_only T (2 ∷ 1 ∷ 10 ∷ 10 ∷ 1 ∷ 0 ∷ 15 ∷ 2 ∷ 3 ∷ 0 ∷ 0 ∷ 0 ∷ 8 ∷ 0 ∷ 0 ∷ 1 ∷ 2 ∷ 1 ∷ 1 ∷ 0 ∷ 0 ∷ 0 ∷ 2 ∷ 2 ∷ 0 ∷ 0 ∷ 0 ∷ 5 ∷ 0 ∷ 1 ∷ 0 ∷ 0 ∷ []) ((1 ∷ 0 ∷ 0 ∷ 1 ∷ 0 ∷ 0 ∷ 0 ∷ 65535 ∷ 1 ∷ 1 ∷ 0 ∷ 0 ∷ 1 ∷ 0 ∷ 1 ∷ 0 ∷ 0 ∷ 1 ∷ []) ∷ (1 ∷ 0 ∷ 0 ∷ 1 ∷ 0 ∷ 1 ∷ 1 ∷ 65535 ∷ 1 ∷ 1 ∷ 0 ∷ 0 ∷ 1 ∷ 0 ∷ 1 ∷ 0 ∷ 0 ∷ 1 ∷ []) ∷ (1 ∷ 0 ∷ 0 ∷ 1 ∷ 0 ∷ 2 ∷ 2 ∷ 65535 ∷ 1 ∷ 1 ∷ 0 ∷ 0 ∷ 1 ∷ 0 ∷ 1 ∷ 0 ∷ 0 ∷ 1 ∷ []) ∷ (1 ∷ 0 ∷ 0 ∷ 1 ∷ 1 ∷ 0 ∷ 0 ∷ 1 ∷ 65535 ∷ 0 ∷ 1 ∷ 1 ∷ 0 ∷ 0 ∷ 1 ∷ 0 ∷ 1 ∷ 0 ∷ 0 ∷ 1 ∷ []) ∷ (1 ∷ 0 ∷ 0 ∷ 1 ∷ 1 ∷ 1 ∷ 1 ∷ 2 ∷ 65535 ∷ 1 ∷ 1 ∷ 1 ∷ 0 ∷ 0 ∷ 1 ∷ 0 ∷ 1 ∷ 0 ∷ 0 ∷ 1 ∷ []) ∷ (1 ∷ 1 ∷ 1 ∷ 2 ∷ 0 ∷ 0 ∷ 0 ∷ 65535 ∷ 1 ∷ 1 ∷ 1 ∷ 1 ∷ 2 ∷ 1 ∷ 1 ∷ 1 ∷ 1 ∷ 2 ∷ []) ∷ (1 ∷ 1 ∷ 1 ∷ 2 ∷ 0 ∷ 1 ∷ 1 ∷ 65535 ∷ 1 ∷ 1 ∷ 1 ∷ 1 ∷ 2 ∷ 1 ∷ 1 ∷ 1 ∷ 1 ∷ 2 ∷ []) ∷ (1 ∷ 1 ∷ 1 ∷ 2 ∷ 0 ∷ 2 ∷ 2 ∷ 65535 ∷ 1 ∷ 1 ∷ 1 ∷ 1 ∷ 2 ∷ 1 ∷ 1 ∷ 1 ∷ 1 ∷ 2 ∷ []) ∷ (1 ∷ 1 ∷ 1 ∷ 2 ∷ 1 ∷ 0 ∷ 0 ∷ 1 ∷ 65535 ∷ 0 ∷ 1 ∷ 1 ∷ 1 ∷ 1 ∷ 2 ∷ 1 ∷ 1 ∷ 1 ∷ 1 ∷ 2 ∷ []) ∷ (1 ∷ 1 ∷ 1 ∷ 2 ∷ 1 ∷ 1 ∷ 1 ∷ 2 ∷ 65535 ∷ 1 ∷ 1 ∷ 1 ∷ 1 ∷ 1 ∷ 2 ∷ 1 ∷ 1 ∷ 1 ∷ 1 ∷ 2 ∷ []) ∷ (2 ∷ 0 ∷ 0 ∷ 1 ∷ 1 ∷ 2 ∷ 0 ∷ 0 ∷ 0 ∷ 65535 ∷ 2 ∷ 1 ∷ 0 ∷ 0 ∷ 1 ∷ 0 ∷ 1 ∷ 1 ∷ 1 ∷ 2 ∷ 1 ∷ 2 ∷ 0 ∷ 0 ∷ 1 ∷ 1 ∷ 2 ∷ []) ∷ (2 ∷ 0 ∷ 0 ∷ 1 ∷ 1 ∷ 2 ∷ 0 ∷ 1 ∷ 1 ∷ 65535 ∷ 2 ∷ 1 ∷ 0 ∷ 0 ∷ 1 ∷ 0 ∷ 1 ∷ 1 ∷ 1 ∷ 2 ∷ 1 ∷ 2 ∷ 0 ∷ 0 ∷ 1 ∷ 1 ∷ 2 ∷ []) ∷ (2 ∷ 0 ∷ 0 ∷ 1 ∷ 1 ∷ 2 ∷ 0 ∷ 2 ∷ 2 ∷ 65535 ∷ 2 ∷ 1 ∷ 0 ∷ 0 ∷ 1 ∷ 0 ∷ 1 ∷ 1 ∷ 1 ∷ 2 ∷ 1 ∷ 2 ∷ 0 ∷ 0 ∷ 1 ∷ 1 ∷ 2 ∷ []) ∷ (2 ∷ 0 ∷ 0 ∷ 1 ∷ 1 ∷ 2 ∷ 1 ∷ 0 ∷ 0 ∷ 1 ∷ 65535 ∷ 0 ∷ 2 ∷ 1 ∷ 0 ∷ 0 ∷ 1 ∷ 0 ∷ 1 ∷ 1 ∷ 1 ∷ 2 ∷ 1 ∷ 2 ∷ 0 ∷ 0 ∷ 1 ∷ 1 ∷ 2 ∷ []) ∷ (2 ∷ 0 ∷ 0 ∷ 1 ∷ 1 ∷ 2 ∷ 1 ∷ 1 ∷ 1 ∷ 2 ∷ 65535 ∷ 1 ∷ 2 ∷ 1 ∷ 0 ∷ 0 ∷ 1 ∷ 0 ∷ 1 ∷ 1 ∷ 1 ∷ 2 ∷ 1 ∷ 2 ∷ 0 ∷ 0 ∷ 1 ∷ 1 ∷ 2 ∷ []) ∷ [])
    -- four parts, restrictors 1 to 4
    ∷ lists_case one_edge (4 ∷ 1 ∷ 9 ∷ 5 ∷ 2 ∷ 0 ∷ 5 ∷ 3 ∷ 11 ∷ 5 ∷ 4 ∷ 0 ∷ 5 ∷ 2 ∷ 1 ∷ 0 ∷ 0 ∷ 0 ∷ 2 ∷ 1 ∷ 0 ∷ 0 ∷ 0 ∷ 1 ∷ 2 ∷ 0 ∷ 0 ∷ 0 ∷ 1 ∷ 2 ∷ 0 ∷ 0 ∷ 0 ∷ []) ((1 ∷ 0 ∷ 0 ∷ 1 ∷ 1 ∷ 0 ∷ 0 ∷ 1 ∷ 0 ∷ 0 ∷ 0 ∷ 0 ∷ 0 ∷ 0 ∷ 1 ∷ 0 ∷ 0 ∷ 1 ∷ 0 ∷ 0 ∷ []) ∷ (1 ∷ 0 ∷ 0 ∷ 1 ∷ 1 ∷ 0 ∷ 0 ∷ 1 ∷ 0 ∷ 1 ∷ 0 ∷ 1 ∷ 0 ∷ 1 ∷ 1 ∷ 0 ∷ 0 ∷ 1 ∷ 0 ∷ 1 ∷ []) ∷ [])
    -- no words
    ∷ refuses_case [] 31 0
    -- no part
    ∷ refuses_case (0 ∷ []) 31 0
    -- lengths that come to more than is there
    ∷ refuses_case (2 ∷ 1 ∷ 0 ∷ 5 ∷ 1 ∷ 0 ∷ 5 ∷ 2 ∷ 1 ∷ 0 ∷ 0 ∷ 0 ∷ []) 31 0
    -- lengths that come to 65,536, and no words of a pattern
    ∷ refuses_case (2 ∷ 1 ∷ 0 ∷ 65535 ∷ 1 ∷ 0 ∷ 1 ∷ []) 31 0
    -- a part without words, in its turn
    ∷ refuses_case (2 ∷ 1 ∷ 0 ∷ 5 ∷ 1 ∷ 0 ∷ 0 ∷ 2 ∷ 1 ∷ 0 ∷ 0 ∷ 0 ∷ []) 11 0
    -- name 8
    ∷ refuses_case (1 ∷ 1 ∷ 8 ∷ 5 ∷ 2 ∷ 1 ∷ 0 ∷ 0 ∷ 0 ∷ []) 32 0
    -- name 13
    ∷ refuses_case (1 ∷ 1 ∷ 13 ∷ 5 ∷ 2 ∷ 1 ∷ 0 ∷ 0 ∷ 0 ∷ []) 32 0
    -- variable 9 in a pattern
    ∷ refuses_case (1 ∷ 1 ∷ 9 ∷ 5 ∷ 2 ∷ 9 ∷ 0 ∷ 0 ∷ 0 ∷ []) 12 0
    -- a condition on a variable of another part
    ∷ refuses_case (2 ∷ 1 ∷ 0 ∷ 5 ∷ 1 ∷ 0 ∷ 15 ∷ 1 ∷ 1 ∷ 0 ∷ 0 ∷ 0 ∷ 1 ∷ 2 ∷ 0 ∷ 0 ∷ 0 ∷ 16 ∷ 1 ∷ 7 ∷ 5 ∷ 0 ∷ 7 ∷ 0 ∷ 1 ∷ 0 ∷ 0 ∷ []) 16 2
    -- Node and Edge
    ∷ refuses_case (2 ∷ 1 ∷ 0 ∷ 5 ∷ 1 ∷ 0 ∷ 5 ∷ 2 ∷ 1 ∷ 0 ∷ 0 ∷ 0 ∷ 1 ∷ 1 ∷ 0 ∷ 0 ∷ 0 ∷ []) 33 0
    -- Maybe in both
    ∷ refuses_case (2 ∷ 1 ∷ 0 ∷ 15 ∷ 1 ∷ 0 ∷ 15 ∷ 1 ∷ 1 ∷ 0 ∷ 0 ∷ 0 ∷ 2 ∷ 2 ∷ 0 ∷ 0 ∷ 0 ∷ 5 ∷ 0 ∷ 1 ∷ 0 ∷ 0 ∷ 1 ∷ 1 ∷ 0 ∷ 0 ∷ 0 ∷ 2 ∷ 2 ∷ 0 ∷ 0 ∷ 0 ∷ 5 ∷ 0 ∷ 1 ∷ 0 ∷ 0 ∷ []) 33 0
    -- 33 before 21
    ∷ refuses_case (2 ∷ 5 ∷ 0 ∷ 5 ∷ 1 ∷ 0 ∷ 5 ∷ 2 ∷ 1 ∷ 0 ∷ 0 ∷ 0 ∷ 1 ∷ 1 ∷ 0 ∷ 0 ∷ 0 ∷ []) 33 0
    -- any part's restrictor
    ∷ refuses_case (2 ∷ 1 ∷ 0 ∷ 5 ∷ 0 ∷ 0 ∷ 5 ∷ 2 ∷ 1 ∷ 0 ∷ 0 ∷ 0 ∷ 2 ∷ 1 ∷ 0 ∷ 0 ∷ 0 ∷ []) 21 0
    ∷ []

pub query_examples_hold : map computed query_examples ≡ map (λ x. (x.listing_is, x.leaves)) query_examples
unfolding query_opened
query_examples_hold = refl

-- ------------------------------------------------------------------ the checker
-- what is left of 74 words of types and 64 bytes: the types, or a refusal's number and row and 72 zeros
abbrev told : List ℕ → CheckLeft
told types = record { result = 1; types = types ++ (9 ∷ 9 ∷ []); report = replicate 64 0 }

abbrev refused_by : ℕ → ℕ → CheckLeft
refused_by number row = record { result = 1; types = replicate 72 0 ++ (9 ∷ 9 ∷ []); report = report_bytes number row 0 0 0 0 }

abbrev checked : List ℕ → CheckLeft
checked query = check_query query (replicate 74 9) (replicate 64 5)

-- the types of variables and of path names; restrictors are not looked at
pub check_names : checked named_paths ≡ told (replicate 12 0 ++ (2 ∷ replicate 35 0) ++ (5 ∷ replicate 17 0) ++ (5 ∷ replicate 5 0))
unfolding query_opened
check_names = refl

pub check_restrictors : checked (2 ∷ 0 ∷ 0 ∷ 5 ∷ 9 ∷ 10 ∷ 5 ∷ 1 ∷ 2 ∷ 0 ∷ 0 ∷ 0 ∷ 1 ∷ 2 ∷ 0 ∷ 0 ∷ 0 ∷ []) ≡ told (replicate 6 0 ++ (1 ∷ replicate 47 0) ++ (5 ∷ replicate 17 0))
unfolding query_opened
check_restrictors = refl

-- 17 before 31, the types untouched
pub check_17_first : check_query [] (replicate 71 9) (replicate 64 5) ≡ record { result = 1; types = replicate 71 9; report = report_bytes 17 0 0 0 0 0 }
unfolding query_opened
check_17_first = refl

pub check_31 : checked [] ≡ refused_by 31 0
unfolding query_opened
check_31 = refl

pub check_32 : checked (2 ∷ 1 ∷ 9 ∷ 0 ∷ 1 ∷ 9 ∷ 0 ∷ []) ≡ refused_by 32 0
unfolding query_opened
check_32 = refl

pub check_33 : checked (2 ∷ 1 ∷ 0 ∷ 5 ∷ 1 ∷ 0 ∷ 5 ∷ 2 ∷ 1 ∷ 0 ∷ 0 ∷ 0 ∷ 1 ∷ 1 ∷ 0 ∷ 0 ∷ 0 ∷ []) ≡ refused_by 33 0
unfolding query_opened
check_33 = refl

pub check_16 : checked (3 ∷ 1 ∷ 0 ∷ 5 ∷ 1 ∷ 0 ∷ 15 ∷ 1 ∷ 0 ∷ 5 ∷ 2 ∷ 1 ∷ 0 ∷ 0 ∷ 0 ∷ 1 ∷ 2 ∷ 0 ∷ 0 ∷ 0 ∷ 2 ∷ 2 ∷ 0 ∷ 0 ∷ 0 ∷ 6 ∷ 0 ∷ 1 ∷ 0 ∷ 0 ∷ 1 ∷ 1 ∷ 0 ∷ 0 ∷ 0 ∷ []) ≡ refused_by 16 2
unfolding query_opened
check_16 = refl

-- ------------------------------------------------------------------ the judge
-- the record of the shared node; not with the paths the other way round
pub judge_join : judge_record T shared_node (1 ∷ 0 ∷ 0 ∷ 1 ∷ 1 ∷ 2 ∷ 2 ∷ 0 ∷ 0 ∷ []) (replicate 20000 3) (replicate 64 5) ≡ record { result = 1; work = replicate 20000 0; report = report_bytes 0 0 1 0 0 0 }
unfolding query_opened
judge_join = refl

pub judge_swapped : judge_record T shared_node (1 ∷ 2 ∷ 2 ∷ 0 ∷ 1 ∷ 0 ∷ 0 ∷ 1 ∷ 0 ∷ []) (replicate 20000 3) (replicate 64 5) ≡ record { result = 1; work = replicate 20000 0; report = replicate 64 0 }
unfolding query_opened
judge_swapped = refl
