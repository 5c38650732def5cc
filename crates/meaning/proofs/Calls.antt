-- Demand 3, whatever a listing keeps fixed: over every list of calls the host's run is the plain machine's; up to the first page marked
-- done the pages hold the full listing. And so for every image and query.
use mathlib.Core.Path.{◌∙◌, ◌≡◌, ap, ap₂, refl, sym}
use mathlib.Core.List.{List, [], ◌++◌, ◌∷◌, append_assoc, map}
use mathlib.Core.Option.{Option, none, some}
use mathlib.Core.Bool.{Bool, false, true}
use Prim.Native.Nat.{◌+◌, ◌<◌, ◌^◌, ℕ}
use native.Mathlib.Omega.{arith}
use lib.ListN.{drop, length, length-append}
use lib.Seq.{drop-append_seam}
use Rattle.meaning.proofs.Bytes.{all_keep, count_words, outcome_words, reported_count}
use Rattle.meaning.proofs.Beginnings.{after_seam, all_left, all_right, last_or_append}
use Rattle.meaning.proofs.Logic.{no_none, some_inj}
use Rattle.meaning.proofs.Pages.{count_is, outcome_begins, outcome_done, printed_records}
use Rattle.meaning.proofs.QueryGranted.{query_full_not_empty, query_full_readable, query_full_sorted}
use Rattle.meaning.proofs.QueryOpened.{query_opened}
use Rattle.meaning.proofs.QueryReading.{ReadBy, records_by}
use Rattle.meaning.specs.Basics.{All, each}
use Rattle.meaning.specs.Listing.{Before, Sorted, before}
use Rattle.meaning.specs.Machine.{Turn, and_then, is_done, last_or, plain_run, printed_count}
use Rattle.meaning.specs.Page.{Left, Lent, Outcome, after, join, left, needs, outcome, overrun, printed, refused, unanswered}
use Rattle.meaning.specs.QueryListing.{Fixed, fixed_by, host_calls_of, host_of, machine_of, page_of, query_full_listing, records_by_lem, records_on, records_shown, until_done_lem}
use Rattle.meaning.specs.Record.{Record}
use Rattle.meaning.specs.Report.{bit}

-- all that demand 3 asks of what is kept fixed
pub record Proper (F : Fixed) : Type 0 where
  pub sorted : Sorted F.records
  pub not_empty : All (Before []) F.records
  pub readable : All (ReadBy F.size) F.records

module _ (F : Fixed) (proper : Proper F) where
  abbrev full : List Record
  full = F.records

  abbrev turn : Lent → List Record → Turn
  turn c rest = record { outcome = outcome F.fault c rest; left = left c (outcome F.fault c rest) }

  page_shows : (c : Lent) (o : Outcome) → All (ReadBy F.size) (printed_records o) → records_on F (record { outcome = o; left = left c o }) ≡ printed_records o
  unfolding query_opened printed_records
  page_shows c unanswered h = refl
  page_shows c (refused x) h = refl
  page_shows c (needs n) h = refl
  page_shows c overrun h = refl
  page_shows c (printed rs done) h = records_by F.size rs h (drop (length (join rs)) c.page)

  -- the records printed by a call that has `rest` left stand on its page
  turn_shows : (c : Lent) (pre rest : List Record) → full ≡ pre ++ rest → records_on F (turn c rest) ≡ printed_records (outcome F.fault c rest)
  turn_shows c pre rest e =
      let o : Outcome = outcome F.fault c rest in
      let h : All (ReadBy F.size) (pre ++ rest) = rw e at proper.readable in
      let k : All (ReadBy F.size) (printed_records o ++ drop (length (printed_records o)) rest) = rw (outcome_begins F.fault c rest) (all_right (ReadBy F.size) pre rest h) in
      page_shows c o (all_left (ReadBy F.size) (printed_records o) (drop (length (printed_records o)) rest) k)

  -- one step: what is printed moves from the rest to the beginning
  moved : (c : Lent) (pre rest : List Record) → full ≡ pre ++ rest → full ≡ (pre ++ printed_records (outcome F.fault c rest)) ++ drop (length (printed_records (outcome F.fault c rest))) rest
  moved c pre rest e =
      let out : List Record = printed_records (outcome F.fault c rest) in
      e ∙ (ap (λ (t : List Record). pre ++ t) (sym (outcome_begins F.fault c rest)) ∙ sym (append_assoc pre out (drop (length out) rest)))

  runs_agree : (cs : List Lent) (pre rest : List Record) → full ≡ pre ++ rest → host_of F (last_or [] pre) cs ≡ plain_run F.fault full (length pre) cs
  unfolding query_opened printed_records
  runs_agree [] pre rest e = refl
  runs_agree (c ∷ cs) pre rest e =
      let a : after (last_or [] pre) full ≡ rest = rw e (after_seam pre rest (rw e at proper.sorted) (rw e at proper.not_empty)) in
      let d : drop (length pre) full ≡ rest = rw e (drop-append_seam pre rest) in
      let o : Outcome = outcome F.fault c rest in
      let out : List Record = printed_records o in
      let t : Turn = record { outcome = o; left = left c o } in
      let bookmark : last_or (last_or [] pre) (records_on F t) ≡ last_or [] (pre ++ out) = ap (last_or (last_or [] pre)) (turn_shows c pre rest e) ∙ sym (last_or_append [] pre out) in
      let number : length pre + printed_count o ≡ length (pre ++ out) = ap (λ (x : ℕ). length pre + x) (count_is o) ∙ sym (length-append pre out) in
      let ih = runs_agree cs (pre ++ out) (drop (length out) rest) (moved c pre rest e) in
      rw (a, d) (ap (λ (l : List Turn). t ∷ l) (ap (λ (b : Record). host_of F b cs) bookmark ∙ (ih ∙ ap (λ (k : ℕ). plain_run F.fault full k cs) (sym number))))

  pub demand_3_of : (calls : List Lent) → host_of F [] calls ≡ machine_of F calls
  unfolding query_opened printed_records
  demand_3_of calls = runs_agree calls [] full refl

  -- ------------------------------------------------------------------ the records on the pages
  begins : (cs : List Lent) (pre rest : List Record) → full ≡ pre ++ rest → (later : List Record) × (each (plain_run F.fault full (length pre) cs) (records_on F) ++ later ≡ rest)
  unfolding query_opened printed_records
  begins [] pre rest e = (rest, refl)
  begins (c ∷ cs) pre rest e =
      let d : drop (length pre) full ≡ rest = rw e (drop-append_seam pre rest) in
      let o : Outcome = outcome F.fault c rest in
      let out : List Record = printed_records o in
      let left_over : List Record = drop (length out) rest in
      let number : length pre + printed_count o ≡ length (pre ++ out) = ap (λ (x : ℕ). length pre + x) (count_is o) ∙ sym (length-append pre out) in
      let ih = begins cs (pre ++ out) left_over (moved c pre rest e) in
      let shown : List Record = each (plain_run F.fault full (length (pre ++ out)) cs) (records_on F) in
      (ih.0, rw (d, number, turn_shows c pre rest e, append_assoc out shown ih.0, ih.1) (outcome_begins F.fault c rest))

  -- nothing is printed twice and nothing passed over: the pages show a beginning of the full listing
  pub pages_begin_of : (calls : List Lent) → (later : List Record) × (each (host_of F [] calls) (records_on F) ++ later ≡ F.records)
  unfolding query_opened printed_records
  pages_begin_of calls = let h = begins calls [] full refl in (h.0, ap (λ (l : List Turn). each l (records_on F) ++ h.0) (demand_3_of calls) ∙ h.1)

  until_done : (cs : List Lent) (pre rest : List Record) → full ≡ pre ++ rest → (l : List Record) → until_done_lem F (plain_run F.fault full (length pre) cs) ≡ some l → l ≡ rest
  unfolding query_opened printed_records
  until_done [] pre rest e l h = no_none h
  until_done (c ∷ cs) pre rest e l h =
      let d : drop (length pre) full ≡ rest = rw e (drop-append_seam pre rest) in
      let o : Outcome = outcome F.fault c rest in
      let out : List Record = printed_records o in
      let number : length pre + printed_count o ≡ length (pre ++ out) = ap (λ (x : ℕ). length pre + x) (count_is o) ∙ sym (length-append pre out) in
      go (is_done o) refl (until_done cs (pre ++ out) (drop (length out) rest) (moved c pre rest e)) (rw (d, number) at h)
    where
      o : Outcome
      o = outcome F.fault c rest

      t : Turn
      t = record { outcome = o; left = left c o }

      out : List Record
      out = printed_records o

      later : List Turn
      later = plain_run F.fault full (length (pre ++ out)) cs

      joined : (m : Option (List Record)) → ((k : List Record) → m ≡ some k → k ≡ drop (length out) rest) → and_then (records_on F t) m ≡ some l → l ≡ rest
      joined none ih q = no_none q
      joined (some k) ih q = sym (some_inj q) ∙ (ap₂ (λ (a b : List Record). a ++ b) (turn_shows c pre rest e) (ih k refl) ∙ outcome_begins F.fault c rest)

      go : (b : Bool) → is_done o ≡ b → ((k : List Record) → until_done_lem F later ≡ some k → k ≡ drop (length out) rest) → ◌≡◌ {A = Option (List Record)} (elim b [ true ↦ some (records_on F t) | false ↦ and_then (records_on F t) (until_done_lem F later) ]) (some l) → l ≡ rest
      go true q ih w = sym (some_inj w) ∙ (turn_shows c pre rest e ∙ outcome_done F.fault c rest q)
      go false q ih w = joined (until_done_lem F later) ih w

  -- up to the first page marked done, the records on the pages not refused are the full listing
  pub pages_complete_of : (calls : List Lent) (l : List Record) → until_done_lem F (host_of F [] calls) ≡ some l → l ≡ F.records
  unfolding query_opened printed_records
  pages_complete_of calls l h = until_done calls [] full refl l (rw (demand_3_of calls) at h)

  -- ------------------------------------------------------------------ what C hands over shows the same records
  shown_is : (c : Lent) (o : Outcome) → length (printed_records o) < 256 ^ 8 → records_shown F (left c o) ≡ records_on F (record { outcome = o; left = left c o })
  unfolding query_opened printed_records
  shown_is c unanswered h = refl
  shown_is c (refused f) h = refl
  shown_is c (needs n) h = refl
  shown_is c overrun h = refl
  shown_is c (printed rs done) h = ap (λ (k : ℕ). records_by_lem F.size k (join rs ++ drop (length (join rs)) c.page)) (reported_count 0 0 (length rs) (length (join rs)) (bit done) 0 (drop 64 c.report) h)

  few_records : (c : Lent) (bookmark : List ℕ) → length c.page < 256 ^ 8 → length (printed_records (page_of F bookmark c).outcome) < 256 ^ 8
  unfolding query_opened printed_records
  few_records c bookmark h =
      let rest : List Record = after bookmark F.records in
      let o : Outcome = outcome F.fault c rest in
      let some_word : All (Before []) rest = all_keep (Before []) (before bookmark) F.records proper.not_empty in
      let part : All (Before []) (printed_records o ++ drop (length (printed_records o)) rest) = rw (outcome_begins F.fault c rest) some_word in
      let k = count_words (printed_records o) (all_left (Before []) (printed_records o) (drop (length (printed_records o)) rest) part) in
      omega (arith, h, k, outcome_words F.fault c rest)

  calls_are : (cs : List Lent) → All (λ c. length c.page < 256 ^ 8) cs → (bookmark : List ℕ) → host_calls_of F bookmark cs ≡ map (λ t. t.left) (host_of F bookmark cs)
  unfolding query_opened printed_records
  calls_are [] h bookmark = refl
  calls_are (c ∷ cs) h bookmark =
      let o : Outcome = (page_of F bookmark c).outcome in
      let s : records_shown F (left c o) ≡ records_on F (record { outcome = o; left = left c o }) = shown_is c o (few_records c bookmark h.0) in
      ap (λ (l : List Left). left c o ∷ l) (ap (λ (rs : List Record). host_calls_of F (last_or bookmark rs) cs) s ∙ calls_are cs h.1 (last_or bookmark (records_on F (record { outcome = o; left = left c o }))))

  -- pages of under 2⁶⁴ words, as all are: the calls of a host that has only what C hands it are the plain machine's
  pub demand_3_bytes_of : (calls : List Lent) → All (λ c. length c.page < 256 ^ 8) calls → host_calls_of F [] calls ≡ map (λ t. t.left) (machine_of F calls)
  demand_3_bytes_of calls h = calls_are calls h [] ∙ ap (map (λ t. t.left)) (demand_3_of calls)

-- ------------------------------------------------------------------ every image and query
pub fixed_proper : (image query : List ℕ) → Proper (fixed_by image query)
unfolding query_opened
fixed_proper image query = record { sorted = query_full_sorted image query; not_empty = query_full_not_empty image query; readable = query_full_readable image query }

pub demand_3 : (image query : List ℕ) (calls : List Lent) → host_of (fixed_by image query) [] calls ≡ machine_of (fixed_by image query) calls
demand_3 image query = demand_3_of (fixed_by image query) (fixed_proper image query)

pub demand_3_bytes : (image query : List ℕ) (calls : List Lent) → All (λ c. length c.page < 256 ^ 8) calls → host_calls_of (fixed_by image query) [] calls ≡ map (λ t. t.left) (machine_of (fixed_by image query) calls)
demand_3_bytes image query = demand_3_bytes_of (fixed_by image query) (fixed_proper image query)

pub pages_complete : (image query : List ℕ) (calls : List Lent) (l : List Record) → until_done_lem (fixed_by image query) (host_of (fixed_by image query) [] calls) ≡ some l → l ≡ query_full_listing image query
unfolding query_opened
pages_complete image query calls l h = pages_complete_of (fixed_by image query) (fixed_proper image query) calls l h

pub pages_begin : (image query : List ℕ) (calls : List Lent) → (later : List Record) × (each (host_of (fixed_by image query) [] calls) (records_on (fixed_by image query)) ++ later ≡ query_full_listing image query)
unfolding query_opened
pages_begin image query calls = pages_begin_of (fixed_by image query) (fixed_proper image query) calls
