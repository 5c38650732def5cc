-- 02, Q-3: what the total of a sitting counts, and when 34 is given.
use mathlib.Core.Path.{◌≡◌, refl}
use mathlib.Core.List.{List, [], ◌++◌, ◌∷◌}
use mathlib.Core.Logic.{◌↔◌, ◌⊎◌}
use mathlib.Core.Option.{none, some}
use mathlib.Core.Bool.{Bool, false, true}
use Prim.Native.Nat.{◌+◌, ◌<◌, ◌^◌, ◌≤◌, ℕ}
use native.Mathlib.Omega.{arith}
use lib.Dec.{leb, ltb}
use lib.ListN.{drop, length}
use borrow.Author.Tests.{lt-ltb, ltb-false, ltb-true}
use Rattle.meaning.proofs.Bytes.{digits_read, reported_count}
use Rattle.meaning.proofs.Logic.{either}
use Rattle.meaning.proofs.QueryOpened.{query_opened}
use Rattle.std.specs.Prelude.{if◌then◌else◌}
use Rattle.meaning.specs.Basics.{All, Cause, first_of, rowless}
use Rattle.meaning.specs.Lines.{PageCall, lines, lines_of, sitting_after, sitting_run}
use Rattle.meaning.specs.Page.{Left, Lent, Outcome, after, answerable, filled, join, left, needs, outcome, overrun, printed, printing, refused, unanswered, unless_fault, unless_overrun_lem}
use Rattle.meaning.specs.QueryListing.{fill_page_lem, query_fixed_fault, query_full_listing}
use Rattle.meaning.specs.Record.{Record}
use Rattle.meaning.specs.Report.{bit, report_bytes, reported}
use Rattle.meaning.specs.Sitting.{carries_past, raised, total_of}

-- ------------------------------------------------------------------ the total
pub total_raised : (n : ℕ) (s : List ℕ) → carries_past n s ≡ false → total_of (raised n s) ≡ total_of s + n
unfolding query_opened
total_raised n s h = let k : total_of s + n ≤ 4294967295 = ltb-false 4294967295 (total_of s + n) h in digits_read 4 (total_of s + n) (omega arith)

-- printed records are taken by the total
abbrev Taken : Lent → Outcome → Type 0
Taken c unanswered = Unit {0}
Taken c (refused f) = Unit {0}
Taken c (needs n) = Unit {0}
Taken c overrun = Unit {0}
Taken c (printed rs done) = carries_past (length rs) c.sitting ≡ false

unless_taken : (c : Lent) (o : Outcome) → Taken c (unless_overrun_lem c.sitting o)
unfolding query_opened
unless_taken c unanswered = tt
unless_taken c (refused f) = tt
unless_taken c (needs n) = tt
unless_taken c overrun = tt
unless_taken c (printed rs done) = go (carries_past (length rs) c.sitting) refl
  where
    go : (b : Bool) → carries_past (length rs) c.sitting ≡ b → Taken c (if b then overrun else printed rs done)
    go true e = tt
    go false e = e

outcome_taken : (fault : Cause) (c : Lent) (rest : List Record) → Taken c (outcome fault c rest)
unfolding query_opened
outcome_taken fault c rest = go (answerable c)
  where
    unless : (f : Cause) → Taken c (unless_fault f (unless_overrun_lem c.sitting (filled (length c.page) rest)))
    unless none = unless_taken c (filled (length c.page) rest)
    unless (some f) = tt

    go : (b : Bool) → Taken c (if b then unless_fault (first_of fault (rowless 22 (ltb (length c.work) 20000))) (unless_overrun_lem c.sitting (filled (length c.page) rest)) else unanswered)
    go true = unless (first_of fault (rowless 22 (ltb (length c.work) 20000)))
    go false = tt

-- a report of which the count is 0
no_lines : (number row need : ℕ) (rest : List ℕ) → reported 2 (report_bytes number row 0 0 0 need ++ rest) ≡ 0
no_lines number row need rest = reported_count number row 0 0 0 need rest (omega arith)

left_rises : (c : Lent) (o : Outcome) → Taken c o → total_of (left c o).sitting ≡ total_of c.sitting + lines_of (left c o)
unfolding query_opened
left_rises c unanswered h = omega arith
left_rises c (refused f) h = omega (arith, no_lines f.0 f.1 0 (drop 64 c.report))
left_rises c (needs n) h = omega (arith, no_lines 23 0 n (drop 64 c.report))
left_rises c overrun h = omega (arith, no_lines 34 0 0 (drop 64 c.report))
left_rises c (printed rs done) h =
    let k : total_of c.sitting + length rs ≤ 4294967295 = ltb-false 4294967295 (total_of c.sitting + length rs) h in
    let few : length rs < 256 ^ 8 = omega arith in
    omega (arith, total_raised (length rs) c.sitting h, reported_count 0 0 (length rs) (length (join rs)) (bit done) 0 (drop 64 c.report) few)

-- over every list of page calls of one sitting, of whatever listings, refused and short ones among them, the total rises by the counts in the answers given
pub total_rises : (sitting : List ℕ) (calls : List PageCall) → total_of (sitting_after sitting (sitting_run sitting calls)) ≡ total_of sitting + lines (sitting_run sitting calls)
unfolding query_opened
total_rises sitting [] = omega arith
total_rises sitting (c ∷ cs) =
    let lent : Lent = record { sitting = sitting; page = c.page; work = c.work; report = c.report } in
    let rest : List Record = after c.bookmark (query_full_listing c.image c.query) in
    let fault : Cause = query_fixed_fault c.image c.query in
    let f : Left = left lent (outcome fault lent rest) in
    omega (arith, left_rises lent (outcome fault lent rest) (outcome_taken fault lent rest), total_rises f.sitting cs)

-- a sitting that was fresh holds the sum of the counts
pub total_is_lines : (sitting : List ℕ) (calls : List PageCall) → total_of sitting ≡ 0 → total_of (sitting_after sitting (sitting_run sitting calls)) ≡ lines (sitting_run sitting calls)
total_is_lines sitting calls z = omega (arith, total_rises sitting calls)

-- ------------------------------------------------------------------ what a call leaves that prints nothing
-- number 0 of a report of which it is 0
accepted : (count used done : ℕ) (rest : List ℕ) → reported 0 (report_bytes 0 0 count used done 0 ++ rest) ≡ 0
unfolding query_opened
accepted count used done rest = digits_read 8 0 (omega arith)

refused_left : (c : Lent) (o : Outcome) → ((left c o).result ≡ 0) ⊎ (0 < reported 0 (left c o).report) → (left c o).sitting ≡ c.sitting
unfolding query_opened
refused_left c unanswered h = refl
refused_left c (refused f) h = refl
refused_left c (needs n) h = refl
refused_left c overrun h = refl
refused_left c (printed rs done) h = either h (λ e. absurd (omega arith)) (λ k. absurd (omega (arith, accepted (length rs) (length (join rs)) (bit done) (drop 64 c.report))))

-- a call that is short (C gets 0) or refused leaves the sitting, every byte of it
pub refused_keeps : (image query bookmark : List ℕ) (c : Lent) → ((fill_page_lem image query bookmark c).result ≡ 0) ⊎ (0 < reported 0 (fill_page_lem image query bookmark c).report) → (fill_page_lem image query bookmark c).sitting ≡ c.sitting
unfolding query_opened
refused_keeps image query bookmark c h = refused_left c (outcome (query_fixed_fault image query) c (after bookmark (query_full_listing image query))) h

-- ------------------------------------------------------------------ 34
no_overrun : {A : Type 0} (n : ℕ) (rest : List Record) → filled n rest ≡ overrun → A
unfolding query_opened
no_overrun n [] e = let z : ◌≡◌ {A = ℕ} 0 1 = cc in absurd (omega arith)
no_overrun {A} n (r ∷ l) e = go (leb (length r) n) e
  where
    go : (b : Bool) → (if b then printing n (r ∷ l) else needs (length r)) ≡ overrun → A
    go true e = let z : ◌≡◌ {A = ℕ} 0 1 = cc in absurd (omega arith)
    go false e = let z : ◌≡◌ {A = ℕ} 0 1 = cc in absurd (omega arith)

-- nothing else refuses the call, and the records that fit would carry the total past its end
pub record Overruns (fault : Cause) (c : Lent) (rest : List Record) : Type 0 where
  pub answered : answerable c ≡ true
  pub granted : first_of fault (rowless 22 (ltb (length c.work) 20000)) ≡ none
  pub records : List Record
  pub done : Bool
  pub fit_is : filled (length c.page) rest ≡ printed records done
  pub carries : 4294967295 < total_of c.sitting + length records

-- 34 is given in just this case: after 23, by the count of the page as full as it can be
pub refused_34 : (fault : Cause) (c : Lent) (rest : List Record) → (outcome fault c rest ≡ overrun) ↔ Overruns fault c rest
unfolding query_opened
refused_34 fault c rest = (there (answerable c) refl, back)
  where
    o : Outcome
    o = filled (length c.page) rest

    f : Cause
    f = first_of fault (rowless 22 (ltb (length c.work) 20000))

    by_count : answerable c ≡ true → f ≡ none → (rs : List Record) (d : Bool) → o ≡ printed rs d → (b : Bool) → carries_past (length rs) c.sitting ≡ b → (if b then overrun else printed rs d) ≡ overrun → Overruns fault c rest
    by_count a g rs d e true k h = record { answered = a; granted = g; records = rs; done = d; fit_is = e; carries = ltb-true 4294967295 (total_of c.sitting + length rs) k }
    by_count a g rs d e false k h = let z : ◌≡◌ {A = ℕ} 0 1 = cc in absurd (omega arith)

    by_outcome : answerable c ≡ true → f ≡ none → (x : Outcome) → o ≡ x → unless_overrun_lem c.sitting x ≡ overrun → Overruns fault c rest
    by_outcome a g unanswered e h = let z : ◌≡◌ {A = ℕ} 0 1 = cc in absurd (omega arith)
    by_outcome a g (refused q) e h = let z : ◌≡◌ {A = ℕ} 0 1 = cc in absurd (omega arith)
    by_outcome a g (needs n) e h = let z : ◌≡◌ {A = ℕ} 0 1 = cc in absurd (omega arith)
    by_outcome a g overrun e h = no_overrun (length c.page) rest e
    by_outcome a g (printed rs d) e h = by_count a g rs d e (carries_past (length rs) c.sitting) refl h

    by_fault : answerable c ≡ true → (x : Cause) → f ≡ x → unless_fault x (unless_overrun_lem c.sitting o) ≡ overrun → Overruns fault c rest
    by_fault a none g h = by_outcome a g o refl h
    by_fault a (some q) g h = let z : ◌≡◌ {A = ℕ} 0 1 = cc in absurd (omega arith)

    there : (b : Bool) → answerable c ≡ b → (if b then unless_fault f (unless_overrun_lem c.sitting o) else unanswered) ≡ overrun → Overruns fault c rest
    there true a h = by_fault a f refl h
    there false a h = let z : ◌≡◌ {A = ℕ} 0 1 = cc in absurd (omega arith)

    back : Overruns fault c rest → outcome fault c rest ≡ overrun
    back r = rw (r.answered, r.granted, r.fit_is, lt-ltb 4294967295 (total_of c.sitting + length r.records) r.carries) refl

-- a sitting's total is below 2³², its bytes below 256
total_bound : (s : List ℕ) → All (λ b. b < 256) s → total_of s ≤ 4294967295
unfolding query_opened
total_bound [] h = omega arith
total_bound (a ∷ []) h = omega (arith, h.0)
total_bound (a ∷ b ∷ []) h = omega (arith, h.0, h.1.0)
total_bound (a ∷ b ∷ c ∷ []) h = omega (arith, h.0, h.1.0, h.1.1.0)
total_bound (a ∷ b ∷ c ∷ d ∷ s) h = omega (arith, h.0, h.1.0, h.1.1.0, h.1.1.1.0)

-- a page that takes no record never gets 34
pub some_record_34 : (fault : Cause) (c : Lent) (rest : List Record) → All (λ b. b < 256) c.sitting → (r : Overruns fault c rest) → 0 < length r.records
some_record_34 fault c rest h r = omega (arith, total_bound c.sitting h, r.carries)
