-- The calls that the program makes are a host's run, and the pages of the run hold the full listing.
use Rattle.std.specs.Prelude.{◌≡◌, ℕ, ◌%◌, ◌^◌, ◌≤◌, List, [], ◌∷◌, ◌++◌, length, take, replicate}
use Rattle.std.proofs.Math.Option.{none}
use Rattle.printing.specs.Counts.{IsPrefixLen}
use Rattle.meaning.specs.Basics.{All, each}
use Rattle.meaning.specs.FullListing.{full_listing}
use Rattle.meaning.specs.Page.{Left, Lent, is_empty, join}
use Rattle.meaning.specs.QueryListing.{fixed_by, host_calls_of, page_of, query_fixed_fault, query_full_listing, query_in, records_shown}
use Rattle.meaning.specs.QueryRecord.{query_record_size}
use Rattle.meaning.specs.QueryWords.{alone}
use Rattle.meaning.specs.Record.{Record, record_size_lem}
use Rattle.meaning.specs.Report.{bit, report_bytes, reported}
use Rattle.meaning.specs.Typing.{Found}
use Rattle.printing.specs.Sizes.{Marked, TypesAt}

-- a query of one part without a name, as the program makes it of its input
pub record OnePart (query : List ℕ) : Type 0 where
  pub restrictor : ℕ
  pub pattern : List ℕ
  pub is : query ≡ alone restrictor pattern

-- the first r words are such a query
pub record Asks (words : List ℕ) (r n : ℕ) (pattern : List ℕ) : Type 0 where
  pub counts : IsPrefixLen r words
  pub is : take r words ≡ alone n pattern

-- a type area of eight variables, by which the records of a query are read off words
pub record TypesOf (query types : List ℕ) : Type 0 where
  pub found : ℕ → Found
  pub at : TypesAt found types
  pub size_is : (w : List ℕ) → query_record_size (query_in query) w ≡ record_size_lem found w

-- what the program lends to a call: a fresh sitting, page and work of 20,000 words, a report of 64 bytes
abbrev pub lent_of : List ℕ → List ℕ → Lent
lent_of page report = record { sitting = replicate 4 0; page = page; work = replicate 20000 0; report = report }

pub record Roomy (c : Lent) : Type 0 where
  pub fresh : c.sitting ≡ replicate 4 0
  pub page : length c.page ≡ 20000
  pub work : length c.work ≡ 20000
  pub report : length c.report ≡ 64

-- such a call, with what it was lent and what it left
pub record Filled (image query bookmark page report page' report' : List ℕ) : Type 0 where
  pub roomy : Roomy (lent_of page report)
  pub page_is : page' ≡ (page_of (fixed_by image query) bookmark (lent_of page report)).left.page
  pub report_is : report' ≡ (page_of (fixed_by image query) bookmark (lent_of page report)).left.report

-- the first one, with no bookmark, if it was not refused
pub record First (image query page report : List ℕ) : Type 0 where
  pub page₀ : List ℕ
  pub report₀ : List ℕ
  pub filled : Filled image query [] page₀ report₀ page report
  pub granted : reported 0 report ≡ 0

-- a later one: its bookmark is the last record on the page before
pub record Followed (image query types page report page' report' : List ℕ) : Type 0 where
  pub mark : List ℕ
  pub size : ℕ
  pub marked : Marked types page (reported 3 report) mark size
  pub filled : Filled image query (take size mark) page report page' report'

-- a host's run of such calls; the last one left this page and this report
pub record Run (image query : List ℕ) (calls : List Lent) (page report : List ℕ) : Type 0 where
  pub roomy : All Roomy calls
  pub earlier : List Left
  pub last : Left
  pub is : host_calls_of (fixed_by image query) [] calls ≡ earlier ++ (last ∷ [])
  pub page_is : page ≡ last.page
  pub report_is : report ≡ last.report

-- the records on the pages of a run of calls, as a host reads them
unfoldable pub records_of : List ℕ → List ℕ → List Lent → List Record
records_of image query calls = each (host_calls_of (fixed_by image query) [] calls) (records_shown (fixed_by image query))

-- so far: the page is the last of a host's run, which nothing refuses. On the pages before it stand the records `before`, on it
-- `here`, and `rest` is to come; the report says so, and the count is that of the records so far, as far as 64 bits go
pub record Shown (image query page report : List ℕ) (count : ℕ) : Type 0 where
  pub granted : query_fixed_fault image query ≡ none
  pub calls : List Lent
  pub run : Run image query calls page report
  pub before : List Record
  pub here : List Record
  pub rest : List Record
  pub shown : records_of image query calls ≡ before ++ here
  pub listing : (before ++ here) ++ rest ≡ query_full_listing image query
  pub some_here : here ≡ [] → rest ≡ []
  pub fits : length (join here) ≤ 20000
  pub behind : List ℕ
  pub page_is : page ≡ join here ++ behind
  pub unused : List ℕ
  pub report_is : report ≡ report_bytes 0 0 (length here) (length (join here)) (bit (is_empty rest)) 0 ++ unused
  pub count_is : count ≡ length (before ++ here) % 2 ^ 64

-- the same, whatever the count
pub record SoFar (image query page report : List ℕ) : Type 0 where
  pub count : ℕ
  pub shown : Shown image query page report count

-- in the end: the pages of a host's run hold the full listing, and the last of them, which is this one, is marked done. Of one part
-- without a name that is the full listing of its pattern, record for record
pub record Whole (image query page report : List ℕ) (count : ℕ) : Type 0 where
  pub calls : List Lent
  pub run : Run image query calls page report
  pub shown : records_of image query calls ≡ query_full_listing image query
  pub pattern_is : (n : ℕ) (pattern : List ℕ) → query ≡ alone n pattern → records_of image query calls ≡ full_listing image pattern n
  pub done : reported 4 report ≡ 1
  pub count_is : count ≡ length (query_full_listing image query) % 2 ^ 64
