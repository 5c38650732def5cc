-- 01, 'Fill a page', with the sitting of 02, Q-3: what a call does, given the answers after its bookmark.
use Rattle.std.specs.Prelude.{List, [], ◌++◌, ◌∷◌, Bool, ◌&&◌, false, true, ◌-◌, ℕ, leb, ltb, drop, length, if◌then◌else◌}
use Rattle.std.proofs.Math.Option.{none, some}
use Rattle.meaning.specs.Basics.{Cause, first_of, keep, rowless}
use Rattle.meaning.specs.Listing.{before}
use Rattle.meaning.specs.Record.{Record}
use Rattle.meaning.specs.Report.{bit, cause_bytes, cleared, over, report_bytes, wide_enough_lem}
use Rattle.meaning.specs.Sitting.{carries_past, holds_total, raised}

-- what one call is lent, but for what the listing keeps fixed and for the bookmark
pub record Lent : Type 0 where
  pub sitting : List ℕ
  pub page : List ℕ
  pub work : List ℕ
  pub report : List ℕ

-- what a call hands back to C and leaves in the memory it was lent
pub record Left : Type 0 where
  pub result : ℕ
  pub sitting : List ℕ
  pub page : List ℕ
  pub work : List ℕ
  pub report : List ℕ

-- what becomes of a call: under 64 bytes for the reported numbers, or a sitting too short; a refusal up to 22; 23 with the words needed;
-- 34, the sitting's total does not take the page's count; or records printed, and whether that is all
pub data Outcome : Type 0 where
  unanswered : Outcome
  refused : ℕ × ℕ → Outcome
  needs : ℕ → Outcome
  overrun : Outcome
  printed : List Record → Bool → Outcome

-- the records that fit whole into n words, in order, up to the first that does not
unfoldable pub fit : ℕ → List Record → List Record
fit n [] = []
fit n (r ∷ l) = if leb (length r) n then r ∷ fit (n - length r) l else []

unfoldable pub join : List Record → List ℕ
join [] = []
join (r ∷ l) = r ++ join l

unfoldable pub is_empty : List Record → Bool
is_empty [] = true
is_empty (r ∷ l) = false

-- the records of rest that fit on a page of n words; done if no later one exists
unfoldable pub printing : ℕ → List Record → Outcome
printing n rest = printed (fit n rest) (is_empty (drop (length (fit n rest)) rest))

-- rest: the answers after the bookmark. 23 if the first is longer than the page
unfoldable pub filled : ℕ → List Record → Outcome
filled n [] = printed [] true
filled n (r ∷ l) = if leb (length r) n then printing n (r ∷ l) else needs (length r)

-- 34, after 23 (02, Q-3): the count is that of the page as full as it can be
unfoldable pub unless_overrun_lem : List ℕ → Outcome → Outcome
unless_overrun_lem sitting unanswered = unanswered
unless_overrun_lem sitting (refused c) = refused c
unless_overrun_lem sitting (needs n) = needs n
unless_overrun_lem sitting overrun = overrun
unless_overrun_lem sitting (printed rs done) = if carries_past (length rs) sitting then overrun else printed rs done

-- fault: the first cause in what the listing keeps fixed
unfoldable pub unless_fault : Cause → Outcome → Outcome
unless_fault none o = o
unless_fault (some c) o = refused c

-- room for the reported numbers, and for the total
unfoldable pub answerable : Lent → Bool
answerable c = wide_enough_lem c.report && holds_total c.sitting

unfoldable pub outcome : Cause → Lent → List Record → Outcome
outcome fault c rest =
    if answerable c
    then unless_fault (first_of fault (rowless 22 (ltb (length c.work) 20000))) (unless_overrun_lem c.sitting (filled (length c.page) rest))
    else unanswered

unfoldable pub left : Lent → Outcome → Left
left c unanswered = record { result = 0; sitting = c.sitting; page = c.page; work = c.work; report = c.report }
left c (refused f) = record { result = 1; sitting = c.sitting; page = c.page; work = c.work; report = over (cause_bytes (some f)) c.report }
left c (needs n) = record { result = 1; sitting = c.sitting; page = c.page; work = cleared 20000 c.work; report = over (report_bytes 23 0 0 0 0 n) c.report }
left c overrun = record { result = 1; sitting = c.sitting; page = c.page; work = cleared 20000 c.work; report = over (cause_bytes (some (34, 0))) c.report }
left c (printed rs done) = record {
  result = 1;
  sitting = raised (length rs) c.sitting;
  page = over (join rs) c.page;
  work = cleared 20000 c.work;
  report = over (report_bytes 0 0 (length rs) (length (join rs)) (bit done) 0) c.report;
}

-- the answers after a bookmark: greater in the order of records
unfoldable pub after : List ℕ → List Record → List Record
after bookmark l = keep (before bookmark) l
