-- The report's bytes tell its numbers, and a page has no more records than words.
use mathlib.Core.Path.{◌≡◌, refl}
use mathlib.Core.List.{List, [], ◌++◌, ◌∷◌}
use mathlib.Core.Option.{none, some}
use mathlib.Core.Bool.{Bool, false, true}
use Prim.Native.Nat.{◌-◌, ◌/◌, ◌<◌, ◌^◌, ◌≤◌, suc, zero, ℕ}
use native.Mathlib.Omega.{arith}
use lib.Dec.{leb, ltb}
use lib.ListN.{length, length-append}
use borrow.Author.Tests.{leb-true}
use Rattle.meaning.proofs.Logic.{no_false}
use Rattle.meaning.proofs.Opened.{opened}
use Rattle.meaning.proofs.Pages.{printed_records, unless_overrun}
use Rattle.std.specs.Prelude.{if◌then◌else◌}
use Rattle.meaning.specs.Basics.{All, Cause, first_of, keep, only, rowless}
use Rattle.meaning.specs.Listing.{Before}
use Rattle.meaning.specs.Page.{Lent, Outcome, answerable, filled, fit, join, needs, outcome, printing, unanswered, unless_fault, unless_overrun_lem}
use Rattle.meaning.specs.Record.{Record}
use Rattle.meaning.specs.Report.{digits, report_bytes, reported, undigits}

pub digits_read : (n x : ℕ) → x < 256 ^ n → undigits (digits n x) ≡ x
unfolding opened printed_records
digits_read zero x h = omega arith
digits_read (suc n) x h =
    let k : x / 256 < 256 ^ n = omega (arith, h) in
    omega (arith, digits_read n (x / 256) k)

-- number 2 of a report over a lent area
pub reported_count : (a b c d e f : ℕ) (rest : List ℕ) → c < 256 ^ 8 → reported 2 (report_bytes a b c d e f ++ rest) ≡ c
unfolding opened printed_records
reported_count a b c d e f rest h = digits_read 8 c h

-- ------------------------------------------------------------------ no more records than words
pub fit_words : (n : ℕ) (l : List Record) → length (join (fit n l)) ≤ n
unfolding opened printed_records
fit_words n [] = omega arith
fit_words n (r ∷ l) = go (leb (length r) n) refl (fit_words (n - length r) l)
  where
    go : (b : Bool) → leb (length r) n ≡ b → length (join (fit (n - length r) l)) ≤ n - length r → length (join (if b then r ∷ fit (n - length r) l else [])) ≤ n
    go true e ih = let h : length r ≤ n = leb-true (length r) n e in omega (arith, length-append r (join (fit (n - length r) l)))
    go false e ih = omega arith

one_word : (r : Record) → Before [] r → 1 ≤ length r
unfolding opened printed_records
one_word [] h = no_false h
one_word (x ∷ r) h = omega arith

pub count_words : (l : List Record) → All (Before []) l → length l ≤ length (join l)
unfolding opened printed_records
count_words [] h = omega arith
count_words (r ∷ l) h = omega (arith, one_word r h.0, count_words l h.1, length-append r (join l))

abbrev Few : ℕ → Outcome → Type 0
Few n o = length (join (printed_records o)) ≤ n

pub outcome_words : (fault : Cause) (c : Lent) (rest : List Record) → length (join (printed_records (outcome fault c rest))) ≤ length c.page
unfolding opened printed_records
outcome_words fault c rest = go (answerable c)
  where
    fills : (l : List Record) → Few (length c.page) (filled (length c.page) l)
    fills [] = omega arith
    fills (r ∷ l) = if_fits (leb (length r) (length c.page))
      where
        if_fits : (b : Bool) → Few (length c.page) (if b then printing (length c.page) (r ∷ l) else needs (length r))
        if_fits true = fit_words (length c.page) (r ∷ l)
        if_fits false = omega arith

    unless : (f : Cause) → Few (length c.page) (unless_fault f (unless_overrun_lem c.sitting (filled (length c.page) rest)))
    unless none = unless_overrun (Few (length c.page)) c.sitting (filled (length c.page) rest) (omega arith) (fills rest)
    unless (some f) = omega arith

    go : (b : Bool) → Few (length c.page) (if b then unless_fault (first_of fault (rowless 22 (ltb (length c.work) 20000))) (unless_overrun_lem c.sitting (filled (length c.page) rest)) else unanswered)
    go true = unless (first_of fault (rowless 22 (ltb (length c.work) 20000)))
    go false = omega arith

pub all_keep : (P : Record → Type 0) (f : Record → Bool) (l : List Record) → All P l → All P (keep f l)
unfolding opened printed_records
all_keep P f [] a = tt
all_keep P f (x ∷ xs) a = go (f x) (all_keep P f xs a.1)
  where
    go : (b : Bool) → All P (keep f xs) → All P (only b x ++ keep f xs)
    go true i = (a.0, i)
    go false i = i
