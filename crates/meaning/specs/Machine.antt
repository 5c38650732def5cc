-- 01, 'Listing calls' (demand 3): the plain machine over a list of calls. The host's run beside it is in QueryListing.
use Rattle.std.specs.Prelude.{List, [], ◌++◌, ◌∷◌, Bool, false, ◌+◌, ℕ, drop, length}
use Rattle.std.proofs.Math.Option.{Option, none, some}
use Rattle.meaning.specs.Basics.{Cause}
use Rattle.meaning.specs.Page.{Left, Lent, Outcome, left, needs, outcome, overrun, printed, refused, unanswered}
use Rattle.meaning.specs.Record.{Record}

-- what is compared for each call: refused or not and all that is reported, and what is left in memory
pub record Turn : Type 0 where
  pub outcome : Outcome
  pub left : Left

-- how many records a call printed
unfoldable pub printed_count : Outcome → ℕ
printed_count unanswered = 0
printed_count (refused c) = 0
printed_count (needs n) = 0
printed_count overrun = 0
printed_count (printed rs done) = length rs

-- the plain machine: it holds the full listing and the number k of records printed so far, and is fed with all but the bookmark
unfoldable pub plain_turn : Cause → List Record → ℕ → Lent → Turn
plain_turn fault records k c = let o = outcome fault c (drop k records) in record { outcome = o; left = left c o }

unfoldable pub plain_run : Cause → List Record → ℕ → List Lent → List Turn
plain_run fault records k [] = []
plain_run fault records k (c ∷ cs) =
    let t = plain_turn fault records k c in
    t ∷ plain_run fault records (k + printed_count t.outcome) cs

-- the last record printed, b where there is none
unfoldable pub last_or : Record → List Record → Record
last_or b [] = b
last_or b (r ∷ l) = last_or r l

-- whether a call's page is marked done; and records before those of later pages
unfoldable pub is_done : Outcome → Bool
is_done unanswered = false
is_done (refused c) = false
is_done (needs n) = false
is_done overrun = false
is_done (printed rs done) = done

unfoldable pub and_then : List Record → Option (List Record) → Option (List Record)
and_then l none = none
and_then l (some m) = some (l ++ m)
