-- Q-3: examples of sittings, from raw bytes and words, as one table and one theorem; and a sitting over two listings.
use mathlib.Core.Path.{◌≡◌, refl}
use mathlib.Core.List.{List, [], ◌++◌, ◌∷◌, map}
use Prim.Native.Nat.{◌-◌, ℕ}
use lib.ListN.{replicate}
use Rattle.meaning.proofs.Examples.{P, T}
use Rattle.meaning.proofs.QueryOpened.{query_opened}
use Rattle.meaning.specs.Lines.{PageCall, sitting_run}
use Rattle.meaning.specs.Page.{Left, Lent}
use Rattle.meaning.specs.QueryListing.{fill_page_lem}
use Rattle.meaning.specs.QueryWords.{alone}
use Rattle.meaning.specs.Report.{report_bytes}

-- a page call for P on T, with a report of 64 bytes
pub record SittingExample : Type 0 where
  pub bookmark : List ℕ
  pub lent : Lent
  pub leaves : Left

abbrev lent : List ℕ → ℕ → Lent
lent sitting words = record { sitting = sitting; page = replicate words 9; work = replicate 20000 3; report = replicate 64 5 }

-- the three records of P on T
abbrev three : List ℕ
three = 1 ∷ 0 ∷ 0 ∷ 1 ∷ 1 ∷ 1 ∷ 0 ∷ 0 ∷ 1 ∷ 0 ∷ 1 ∷ 1 ∷ 1 ∷ 2 ∷ 1 ∷ 1 ∷ 1 ∷ 1 ∷ 2 ∷ 1 ∷ 2 ∷ 0 ∷ 0 ∷ 1 ∷ 1 ∷ 2 ∷ 2 ∷ 1 ∷ 0 ∷ 0 ∷ 1 ∷ 0 ∷ 1 ∷ 1 ∷ 1 ∷ 2 ∷ 1 ∷ []

-- all three on a page of so many words, lent the one sitting and leaving the other
abbrev takes_three : ℕ → List ℕ → List ℕ → SittingExample
takes_three words sitting after = record {
  bookmark = [];
  lent = lent sitting words;
  leaves = record { result = 1; sitting = after; page = three ++ replicate (words - 37) 9; work = replicate 20000 0; report = report_bytes 0 0 3 37 1 0 };
}

-- refused on a page of so many words: the sitting as it was
abbrev refuses_page : ℕ → List ℕ → List ℕ → SittingExample
refuses_page words sitting report = record {
  bookmark = [];
  lent = lent sitting words;
  leaves = record { result = 1; sitting = sitting; page = replicate words 9; work = replicate 20000 0; report = report };
}

abbrev sitting_examples : List SittingExample
sitting_examples =
    -- three lines; what is past the 4 bytes stays
    takes_three 40 (2 ∷ 1 ∷ 0 ∷ 0 ∷ 119 ∷ []) (5 ∷ 1 ∷ 0 ∷ 0 ∷ 119 ∷ [])
    -- a carry through all bytes into the fourth
    ∷ takes_three 37 (254 ∷ 255 ∷ 255 ∷ 0 ∷ []) (1 ∷ 0 ∷ 0 ∷ 1 ∷ [])
    -- up to the greatest total
    ∷ takes_three 37 (252 ∷ 255 ∷ 255 ∷ 255 ∷ []) (255 ∷ 255 ∷ 255 ∷ 255 ∷ [])
    -- past it: 34, though two of the three lines would go in
    ∷ refuses_page 37 (253 ∷ 255 ∷ 255 ∷ 255 ∷ []) (report_bytes 34 0 0 0 0 0)
    -- 23 before 34
    ∷ refuses_page 9 (255 ∷ 255 ∷ 255 ∷ 255 ∷ []) (report_bytes 23 0 0 0 0 10)
    -- nothing left to print: no 34
    ∷ record {
      bookmark = 2 ∷ 0 ∷ 0 ∷ 1 ∷ 1 ∷ 2 ∷ 2 ∷ 1 ∷ 0 ∷ 0 ∷ 1 ∷ 0 ∷ 1 ∷ 1 ∷ 1 ∷ 2 ∷ 1 ∷ [];
      lent = lent (255 ∷ 255 ∷ 255 ∷ 255 ∷ []) 9;
      leaves = record { result = 1; sitting = 255 ∷ 255 ∷ 255 ∷ 255 ∷ []; page = replicate 9 9; work = replicate 20000 0; report = report_bytes 0 0 0 0 1 0 };
    }
    -- a sitting of 3 bytes
    ∷ record {
      bookmark = [];
      lent = lent (replicate 3 0) 37;
      leaves = record { result = 0; sitting = replicate 3 0; page = replicate 37 9; work = replicate 20000 3; report = replicate 64 5 };
    }
    ∷ []

pub sitting_examples_hold : map (λ x. fill_page_lem T (alone 1 P) x.bookmark x.lent) sitting_examples ≡ map (λ x. x.leaves) sitting_examples
unfolding query_opened
sitting_examples_hold = refl

-- a page of so many words for a query on T, from the first record on
abbrev page_call : List ℕ → ℕ → ℕ → PageCall
page_call query words report = record { image = T; query = query; bookmark = []; page = replicate words 9; work = replicate 20000 3; report = replicate report 5 }

-- P, a page too short, a faulty query, the undirected edge both ways, a report too short: 3, 0, 0, 2 and 0 lines
abbrev two_listings : List PageCall
two_listings = page_call (alone 1 P) 40 64 ∷ page_call (alone 1 P) 9 64 ∷ page_call [] 40 64 ∷ page_call (alone 1 (4 ∷ 0 ∷ 0 ∷ 0 ∷ 0 ∷ [])) 40 64 ∷ page_call (alone 1 P) 40 63 ∷ []

pub sitting_run_holds : map (λ f. f.sitting) (sitting_run (replicate 4 0) two_listings) ≡ (3 ∷ replicate 3 0) ∷ (3 ∷ replicate 3 0) ∷ (3 ∷ replicate 3 0) ∷ (5 ∷ replicate 3 0) ∷ (5 ∷ replicate 3 0) ∷ []
unfolding query_opened
sitting_run_holds = refl
