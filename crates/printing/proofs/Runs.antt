-- A page more: the program's calls stay a host's run, and its pages the beginning of the full listing. Assumes nothing.
use Rattle.std.proofs.Common.{◌≡◌, ℕ, suc, ◌+◌, ◌-◌, ◌%◌, ◌^◌, ◌<◌, ◌≤◌, Bool, true, false, leb, List, [], ◌∷◌, ◌++◌, length, take, drop, replicate, sym, refl, ap, ◌∙◌, subst, ap₂, append_assoc, append-nil, arith, length-append, le-ltb, le-leb}
use mathlib.Core.Option.{none}
use lib.ListN.{length-replicate}
use lib.Seq.{drop-nil}
use Rattle.meaning.proofs.Bytes.{count_words, fit_words}
use Rattle.meaning.proofs.Beginnings.{after_seam, all_left, all_right, last_or_append, last_or_snoc}
use Rattle.meaning.proofs.Logic.{all_map, all_of, either}
use Rattle.meaning.proofs.OnePart.{one_part}
use Rattle.meaning.proofs.Pages.{outcome_begins, printed_records}
use Rattle.meaning.proofs.QueryGranted.{query_full_not_empty, query_full_readable, query_full_sorted, query_no_longer}
use Rattle.meaning.proofs.QueryReading.{ReadBy, records_by}
use Rattle.std.specs.Prelude.{if◌then◌else◌}
use Rattle.meaning.specs.Basics.{All, each, first_of, rowless}
use Rattle.meaning.specs.FullListing.{full_listing}
use Rattle.meaning.specs.Listing.{Before, Sorted}
use Rattle.meaning.specs.Machine.{last_or}
use Rattle.meaning.specs.Page.{Left, Lent, after, answerable, filled, fit, is_empty, join, left, outcome, printed, printing, unless_fault, unless_overrun_lem}
use Rattle.meaning.specs.QueryListing.{Fixed, fill_page_lem, fixed_by, host_calls_of, page_of, query_fixed_fault, query_full_listing, query_in, records_by_lem, records_shown}
use Rattle.meaning.specs.QueryRecord.{query_record_size}
use Rattle.meaning.specs.QueryWords.{alone}
use Rattle.meaning.specs.Record.{Record, record_size_lem}
use Rattle.meaning.specs.Report.{bit, over, report_bytes, reported, undigits, wide_enough_lem}
use Rattle.meaning.specs.Sitting.{carries_past, holds_total, total_of}
use Rattle.search.proofs.Fitting.{fit_yes}
use Rattle.printing.specs.Run.{Filled, First, Followed, Roomy, Shown, TypesOf, Whole, lent_of, records_of}
use Rattle.printing.specs.Sizes.{Marked}
use Rattle.printing.proofs.Accepting.{no_fault}
use Rattle.printing.proofs.Marks.{mark_is}
use Rattle.printing.proofs.Reported.{count_read, done_read, used_read}

-- ------------------------------------------------------------------ lists
each_snoc : (xs : List Left) (x : Left) (g : Left → List Record) → each (xs ++ (x ∷ [])) g ≡ each xs g ++ g x
unfolding each
each_snoc [] x g = append-nil (g x)
each_snoc (y ∷ xs) x g = ap (λ (l : List Record). g y ++ l) (each_snoc xs x g) ∙ sym (append_assoc (g y) (each xs g) (g x))

all_snoc : (P : Lent → Type 0) (xs : List Lent) (x : Lent) → All P xs → P x → All P (xs ++ (x ∷ []))
all_snoc P [] x h k = (k, tt)
all_snoc P (y ∷ xs) x h k = (h.0, all_snoc P xs x h.1 k)

-- of some records the last does not depend on what went before
last_of : (a b : Record) (xs : List Record) → (xs ≡ [] → ⊥) → last_or a xs ≡ last_or b xs
unfolding last_or
last_of a b [] h = absurd (h refl)
last_of a b (x ∷ xs) h = refl

some_snoc : (b : Record) (xs : List Record) → (xs ≡ [] → ⊥) → (ys : List Record) × (xs ≡ ys ++ (last_or b xs ∷ []))
some_snoc b xs h = either (last_or_snoc b xs) (λ e. absurd (h e)) (λ p. p)

empty_is : (l : List Record) → bit (is_empty l) ≡ 0 → l ≡ [] → ⊥
unfolding bit is_empty
empty_is [] h e = absurd (omega (arith, h))
empty_is (r ∷ l) h e = let z : suc (length l) ≡ 0 = ap length e in absurd (omega (arith, z))

full_is : (l : List Record) → (bit (is_empty l) ≡ 0 → ⊥) → (l ≡ []) × (bit (is_empty l) ≡ 1)
unfolding bit is_empty
full_is [] h = (refl, refl)
full_is (r ∷ l) h = absurd (h refl)

small_bit : (b : Bool) → bit b ≤ 1
unfolding bit
small_bit true = omega arith
small_bit false = omega arith

fit_some : (m : ℕ) (rest : List Record) → All (λ r. length r ≤ m) rest → fit m rest ≡ [] → rest ≡ []
fit_some m [] h e = refl
fit_some m (r ∷ l) h e = let z : suc (length (fit (m - length r) l)) ≡ 0 = ap length (sym (fit_yes m r l h.0) ∙ e) in absurd (omega (arith, z))

filled_printing : (m : ℕ) (rest : List Record) → All (λ r. length r ≤ m) rest → filled m rest ≡ printing m rest
unfolding filled printing fit is_empty
filled_printing m [] h = refl
filled_printing m (r ∷ l) h = rw (le-leb (length r) m h.0) refl

-- no more records fit than there are words
fit_all : (P : Record → Type 0) (m : ℕ) (l : List Record) → All P l → All P (fit m l)
unfolding fit
fit_all P m [] h = tt
fit_all P m (r ∷ l) h = go (leb (length r) m) (fit_all P (m - length r) l h.1)
  where
    go : (b : Bool) → All P (fit (m - length r) l) → All P (if b then r ∷ fit (m - length r) l else [])
    go true k = (h.0, k)
    go false k = tt

few_fit : (m : ℕ) (l : List Record) → All (Before []) l → length (fit m l) ≤ m
few_fit m l h = omega (arith, count_words (fit m l) (fit_all (Before []) m l h), fit_words m l)

-- a fresh sitting takes the count of a page
fresh_room : (n : ℕ) → n ≤ 4294967295 → carries_past n (replicate 4 0) ≡ false
unfolding carries_past total_of undigits
fresh_room n h =
    let z : total_of (replicate 4 0) ≡ 0 = refl in
    le-ltb 4294967295 (total_of (replicate 4 0) + n) (omega arith)

fresh_takes : (m : ℕ) (rest : List Record) → length (fit m rest) ≤ 4294967295 → unless_overrun_lem (replicate 4 0) (printing m rest) ≡ printing m rest
unfolding unless_overrun_lem printing
fresh_takes m rest h = rw (fresh_room (length (fit m rest)) h) refl

module _ (image query : List ℕ) where
  abbrev full : List Record
  full = query_full_listing image query

  abbrev F : Fixed
  F = fixed_by image query

  abbrev size : List ℕ → ℕ
  size = query_record_size (query_in query)

  -- ------------------------------------------------------------------ a call more
  run_snoc : (cs : List Lent) (c : Lent) (b : Record) → host_calls_of F b (cs ++ (c ∷ [])) ≡ host_calls_of F b cs ++ ((page_of F (last_or b (each (host_calls_of F b cs) (records_shown F))) c).left ∷ [])
  unfolding host_calls_of each last_or
  run_snoc [] c b = refl
  run_snoc (d ∷ cs) c b =
      let l : Left = (page_of F b d).left in
      let a : Record = last_or b (records_shown F l) in
      let later : List Record = each (host_calls_of F a cs) (records_shown F) in
      ap (λ (x : List Left). l ∷ x) (run_snoc cs c a ∙ ap (λ (m : Record). host_calls_of F a cs ++ ((page_of F m c).left ∷ [])) (sym (last_or_append b (records_shown F l) later)))

  -- ------------------------------------------------------------------ what a call leaves that nothing refuses
  module _ (ok : query_fixed_fault image query ≡ none) where
    outcome_filled : (c : Lent) → Roomy c → (rest : List Record) → outcome (query_fixed_fault image query) c rest ≡ unless_overrun_lem (replicate 4 0) (filled (length c.page) rest)
    unfolding outcome answerable wide_enough_lem holds_total first_of rowless unless_fault
    outcome_filled c r rest = rw (le-leb 64 (length c.report) (omega (arith, r.report)), r.fresh, ok, le-ltb (length c.work) 20000 (omega (arith, r.work))) refl

    short : (before rest : List Record) → before ++ rest ≡ full → All (λ r. length r ≤ 20000) rest
    short before rest e =
        let h : All (λ r. length r ≤ 20000) full = all_of (λ r. length r ≤ 20000) full (λ r m. omega (arith, query_no_longer image query ok r m)) in
        all_right (λ r. length r ≤ 20000) before rest (subst (All (λ r. length r ≤ 20000)) (sym e) h)

    outcome_is : (c : Lent) → Roomy c → (before rest : List Record) → before ++ rest ≡ full → outcome (query_fixed_fault image query) c rest ≡ printing 20000 rest
    outcome_is c r before rest e =
        let some : All (Before []) rest = all_right (Before []) before rest (subst (All (Before [])) (sym e) (query_full_not_empty image query)) in
        outcome_filled c r rest
        ∙ (ap (λ (m : ℕ). unless_overrun_lem (replicate 4 0) (filled m rest)) r.page
        ∙ (ap (unless_overrun_lem (replicate 4 0)) (filled_printing 20000 rest (short before rest e)) ∙ fresh_takes 20000 rest (omega (arith, few_fit 20000 rest some))))

    call_left : (c : Lent) → Roomy c → (before rest : List Record) → before ++ rest ≡ full → (page_of F (last_or [] before) c).left ≡ left c (printing 20000 rest)
    unfolding page_of fixed_by
    call_left c r before rest e =
        let s : Sorted (before ++ rest) = subst Sorted (sym e) (query_full_sorted image query) in
        let z : All (Before []) (before ++ rest) = subst (All (Before [])) (sym e) (query_full_not_empty image query) in
        let a : after (last_or [] before) full ≡ rest = ap (after (last_or [] before)) (sym e) ∙ after_seam before rest s z in
        ap (λ (l : List Record). left c (outcome (query_fixed_fault image query) c l)) a ∙ ap (left c) (outcome_is c r before rest e)

    begins : (c : Lent) → Roomy c → (before rest : List Record) → before ++ rest ≡ full → fit 20000 rest ++ drop (length (fit 20000 rest)) rest ≡ rest
    unfolding printing printed_records
    begins c r before rest e =
        let o : printed_records (outcome (query_fixed_fault image query) c rest) ≡ fit 20000 rest = ap printed_records (outcome_is c r before rest e) in
        sym (ap (λ (l : List Record). l ++ drop (length l) rest) o) ∙ outcome_begins (query_fixed_fault image query) c rest

  -- records in the middle of the full listing: they can be read, and none is empty
  within : (P : Record → Type 0) → All P full → (before here rest : List Record) → (before ++ here) ++ rest ≡ full → All P here
  within P h before here rest e = all_right P before here (all_left P (before ++ here) rest (subst (All P) (sym e) h))

  readable : (before here rest : List Record) → (before ++ here) ++ rest ≡ full → All (ReadBy size) here
  readable = within (ReadBy size) (query_full_readable image query)

  no_more : (before here rest : List Record) → (before ++ here) ++ rest ≡ full → length here ≤ length (join here)
  no_more before here rest e = count_words here (within (Before []) (query_full_not_empty image query) before here rest e)

  -- the records that C hands over
  shown_left : (c : Lent) (rs : List Record) (done : Bool) → All (ReadBy size) rs → length rs ≤ 20000 → records_shown F (left c (printed rs done)) ≡ rs
  unfolding records_shown fixed_by left over
  shown_left c rs done h k =
      ap (λ (i : ℕ). records_by_lem size i (join rs ++ drop (length (join rs)) c.page)) (count_read 0 0 (length rs) (length (join rs)) (bit done) 0 (drop (length (report_bytes 0 0 (length rs) (length (join rs)) (bit done) 0)) c.report) (omega (arith, k)))
      ∙ records_by size rs h (drop (length (join rs)) c.page)

  page_left : (c : Lent) (rs : List Record) (done : Bool) → (left c (printed rs done)).page ≡ join rs ++ drop (length (join rs)) c.page
  unfolding left over
  page_left c rs done = refl

  report_left : (c : Lent) (rs : List Record) (done : Bool) → (left c (printed rs done)).report ≡ report_bytes 0 0 (length rs) (length (join rs)) (bit done) 0 ++ drop (length (report_bytes 0 0 (length rs) (length (join rs)) (bit done) 0)) c.report
  unfolding left over
  report_left c rs done = refl

  printing_is : (m : ℕ) (rest : List Record) → printing m rest ≡ printed (fit m rest) (is_empty (drop (length (fit m rest)) rest))
  unfolding printing
  printing_is m rest = refl

  -- the page after the records of a run
  made : (calls : List Lent) (before rest : List Record) (page₀ report₀ page report : List ℕ) (count : ℕ) → query_fixed_fault image query ≡ none → All Roomy calls → records_of image query calls ≡ before → before ++ rest ≡ full
      → Filled image query (last_or [] before) page₀ report₀ page report → (reported 2 report ≡ length (fit 20000 rest) → length (fit 20000 rest) ≤ 20000 → count ≡ length (before ++ fit 20000 rest) % 2 ^ 64)
      → (s : Shown image query page report count) × (s.here ≡ fit 20000 rest) × (s.rest ≡ drop (length (fit 20000 rest)) rest)
  unfolding records_of
  made calls before rest page₀ report₀ page report count ok rooms shown e h k =
      let c : Lent = lent_of page₀ report₀ in
      let r : Roomy c = h.roomy in
      let here : List Record = fit 20000 rest in
      let rest' : List Record = drop (length here) rest in
      let b = begins ok c r before rest e in
      let few : length (join here) ≤ 20000 = fit_words 20000 rest in
      let listing : (before ++ here) ++ rest' ≡ full = append_assoc before here rest' ∙ (ap (λ (x : List Record). before ++ x) b ∙ e) in
      let reads : All (ReadBy size) here = readable before here rest' listing in
      let few₂ : length here ≤ 20000 = omega (arith, no_more before here rest' listing, few) in
      let l : Left = (page_of F (last_or [] before) c).left in
      let l_is : l ≡ left c (printed here (is_empty rest')) = call_left ok c r before rest e ∙ ap (left c) (printing_is 20000 rest) in
      let p : page ≡ join here ++ drop (length (join here)) page₀ = h.page_is ∙ (ap (λ (x : Left). x.page) l_is ∙ page_left c here (is_empty rest')) in
      let bytes : List ℕ = report_bytes 0 0 (length here) (length (join here)) (bit (is_empty rest')) 0 in
      let q : report ≡ bytes ++ drop (length bytes) report₀ = h.report_is ∙ (ap (λ (x : Left). x.report) l_is ∙ report_left c here (is_empty rest')) in
      let count_here : reported 2 report ≡ length here = ap (reported 2) q ∙ count_read 0 0 (length here) (length (join here)) (bit (is_empty rest')) 0 (drop (length bytes) report₀) (omega (arith, few₂)) in
      let run : host_calls_of F [] (calls ++ (c ∷ [])) ≡ host_calls_of F [] calls ++ (l ∷ []) = run_snoc calls c [] ∙ ap (λ (x : Record). host_calls_of F [] calls ++ ((page_of F x c).left ∷ [])) (ap (last_or []) shown) in
      let on_page : records_shown F l ≡ here = ap (records_shown F) l_is ∙ shown_left c here (is_empty rest') reads few₂ in (
        record {
          granted = ok;
          calls = calls ++ (c ∷ []);
          run = record { roomy = all_snoc Roomy calls c rooms r; earlier = host_calls_of F [] calls; last = l; is = run; page_is = h.page_is; report_is = h.report_is };
          before = before;
          here = here;
          rest = rest';
          shown = ap (λ (x : List Left). each x (records_shown F)) run ∙ (each_snoc (host_calls_of F [] calls) l (records_shown F) ∙ ap₂ (λ (x y : List Record). x ++ y) shown on_page);
          listing = listing;
          some_here = λ z. ap (drop (length here)) (fit_some 20000 rest (short ok before rest e) z) ∙ drop-nil (length here);
          fits = few;
          behind = drop (length (join here)) page₀;
          page_is = p;
          unused = drop (length bytes) report₀;
          report_is = q;
          count_is = k count_here few₂;
        },
        refl,
        refl,
      )

  pub first_shown : (page report : List ℕ) (count : ℕ) → First image query page report → count ≡ reported 2 report → Shown image query page report count
  unfolding records_of host_calls_of each last_or
  first_shown page report count h e =
      (made [] [] full h.page₀ h.report₀ page report count (no_fault image query page report h) tt refl refl h.filled (λ r s. omega (arith, e, r, s))).0

  -- of one part without a name
  one_listed : (n : ℕ) (pattern : List ℕ) → query ≡ alone n pattern → full ≡ full_listing image pattern n
  one_listed n pattern e = ap (query_full_listing image) e ∙ one_part image pattern n

  -- how many records come after those of a page
  unfoldable pub to_come : List ℕ → List ℕ → ℕ
  to_come page report = length (after (last_or [] (records_by_lem size (reported 2 report) page)) full)

  -- ------------------------------------------------------------------ the page that was printed
  module _ (page report : List ℕ) (count : ℕ) (s : Shown image query page report count) where
    reads_here : All (ReadBy size) s.here
    reads_here = readable s.before s.here s.rest s.listing

    count_here : reported 2 report ≡ length s.here
    count_here = ap (reported 2) s.report_is ∙ count_read 0 0 (length s.here) (length (join s.here)) (bit (is_empty s.rest)) 0 s.unused (omega (arith, no_more s.before s.here s.rest s.listing, s.fits))

    used_here : reported 3 report ≡ length (join s.here)
    used_here = ap (reported 3) s.report_is ∙ used_read 0 0 (length s.here) (length (join s.here)) (bit (is_empty s.rest)) 0 s.unused (omega (arith, s.fits))

    done_here : reported 4 report ≡ bit (is_empty s.rest)
    done_here = ap (reported 4) s.report_is ∙ done_read 0 0 (length s.here) (length (join s.here)) (bit (is_empty s.rest)) 0 s.unused (omega (arith, small_bit (is_empty s.rest)))

    pub shown_used : reported 3 report ≤ 20000
    shown_used = omega (arith, used_here, s.fits)

    last_here : (s.here ≡ [] → ⊥) → last_or [] s.here ≡ last_or [] (s.before ++ s.here)
    last_here h = last_of [] (last_or [] s.before) s.here h ∙ sym (last_or_append [] s.before s.here)

    come_is : (s.here ≡ [] → ⊥) → to_come page report ≡ length s.rest
    unfolding to_come
    come_is h =
        let all : List Record = s.before ++ s.here in
        let r : records_by_lem size (reported 2 report) page ≡ s.here = ap₂ (λ (i : ℕ) (w : List ℕ). records_by_lem size i w) count_here s.page_is ∙ records_by size s.here reads_here s.behind in
        let b : last_or [] (records_by_lem size (reported 2 report) page) ≡ last_or [] all = ap (last_or []) r ∙ last_here h in
        let o : Sorted (all ++ s.rest) = subst Sorted (sym s.listing) (query_full_sorted image query) in
        let z : All (Before []) (all ++ s.rest) = subst (All (Before [])) (sym s.listing) (query_full_not_empty image query) in
        ap length (ap₂ after b (sym s.listing) ∙ after_seam all s.rest o z)

    -- marked done: the pages hold the full listing
    pub whole : (d : ℕ) → d ≡ reported 4 report → (d ≡ 0 → ⊥) → Whole image query page report count
    whole d e h =
        let r = full_is s.rest (λ z. h (e ∙ (done_here ∙ z))) in
        let all : s.before ++ s.here ≡ full = sym (append-nil (s.before ++ s.here)) ∙ (ap (λ (x : List Record). (s.before ++ s.here) ++ x) (sym r.0) ∙ s.listing) in
        let shown : records_of image query s.calls ≡ full = s.shown ∙ all in
        record { calls = s.calls; run = s.run; shown = shown; pattern_is = λ n pattern q. shown ∙ one_listed n pattern q; done = done_here ∙ r.1; count_is = s.count_is ∙ ap (λ (x : List Record). length x % 2 ^ 64) all }

  -- not done: the next page
  module _ (page report : List ℕ) (count : ℕ) (s : Shown image query page report count) (d : ℕ) (e : d ≡ reported 4 report) (z : d ≡ 0) (types page' report' : List ℕ) (t : TypesOf query types) (h : Followed image query types page report page' report') where
    more : s.rest ≡ [] → ⊥
    more = empty_is s.rest (sym (done_here page report count s) ∙ (sym e ∙ z))

    some_now : s.here ≡ [] → ⊥
    some_now k = more (s.some_here k)

    bookmark_is : take h.size h.mark ≡ last_or [] (s.before ++ s.here)
    bookmark_is =
        let b : Record = last_or [] s.here in
        let reads : All (ReadBy (record_size_lem t.found)) s.here = all_map (λ r k w. sym (t.size_is (r ++ w)) ∙ k w) s.here (reads_here page report count s) in
        let (ys, p) = some_snoc [] s.here some_now in
        mark_is t.found types page h.mark (reported 3 report) h.size ys b s.behind t.at (subst (All (ReadBy (record_size_lem t.found))) p reads) (s.page_is ∙ ap (λ (x : List Record). join x ++ s.behind) p) (used_here page report count s ∙ ap (λ (x : List Record). length (join x)) p) h.marked
        ∙ last_here page report count s some_now

    next : (m count' : ℕ) → m ≡ reported 2 report' → count' ≡ (count + m) % 2 ^ 64 → (u : Shown image query page' report' count') × (u.here ≡ fit 20000 s.rest) × (u.rest ≡ drop (length (fit 20000 s.rest)) s.rest)
    next m count' g c =
        made s.calls (s.before ++ s.here) s.rest page report page' report' count' s.granted s.run.roomy s.shown s.listing
        (subst (λ (b : Record). Filled image query b page report page' report') bookmark_is h.filled)
        (λ r k. omega (arith, c, g, s.count_is, r, length-append (s.before ++ s.here) (fit 20000 s.rest)))

    pub next_shown : (m count' : ℕ) → m ≡ reported 2 report' → count' ≡ (count + m) % 2 ^ 64 → Shown image query page' report' count'
    next_shown m count' g c = (next m count' g c).0

    some_next : fit 20000 s.rest ≡ [] → ⊥
    some_next k = more (fit_some 20000 s.rest (short s.granted (s.before ++ s.here) s.rest s.listing) k)

    fewer : (xs ys zs : List Record) → xs ++ ys ≡ zs → (xs ≡ [] → ⊥) → length ys < length zs
    fewer [] ys zs p k = absurd (k refl)
    fewer (x ∷ xs) ys zs p k = let q : suc (length (xs ++ ys)) ≡ length zs = ap length p in omega (arith, q, length-append xs ys)

    pub next_less : to_come page' report' < to_come page report
    next_less =
        let m : ℕ = (count + reported 2 report') % 2 ^ 64 in
        let (u, a, b) = next (reported 2 report') m refl refl in
        let o = begins s.granted (lent_of page report) h.filled.roomy (s.before ++ s.here) s.rest s.listing in
        let r : length (drop (length (fit 20000 s.rest)) s.rest) < length s.rest = fewer (fit 20000 s.rest) (drop (length (fit 20000 s.rest)) s.rest) s.rest o some_next in
        omega (arith, come_is page' report' m u (λ k. some_next (sym a ∙ k)), ap length b, r, come_is page report count s some_now)

    pub next_used : reported 3 report' ≤ 20000
    next_used = let m : ℕ = (count + reported 2 report') % 2 ^ 64 in shown_used page' report' m (next_shown (reported 2 report') m refl refl)

  pub first_used : (page report : List ℕ) → First image query page report → reported 3 report ≤ 20000
  first_used page report h = shown_used page report (reported 2 report) (first_shown page report (reported 2 report) h refl)

-- ------------------------------------------------------------------ the ways out of the functions that call
pub filled_by : (image query bookmark page report sitting' page' work' report' : List ℕ) (r : ℕ) → length page ≡ 20000 → length report ≡ 64
    → ◌≡◌ {A = Left} (record { result = r; sitting = sitting'; page = page'; work = work'; report = report' }) (fill_page_lem image query bookmark (record { sitting = replicate 4 0; page = page; work = replicate 20000 0; report = report }))
    → Filled image query bookmark page report page' report'
unfolding fill_page_lem
filled_by image query bookmark page report sitting' page' work' report' r p q e =
    record { roomy = record { fresh = refl; page = p; work = length-replicate {A = ℕ} 20000 0; report = q }; page_is = ap (λ (l : Left). l.page) e; report_is = ap (λ (l : Left). l.report) e }

pub followed_by : (image query types page report mark page' report' : List ℕ) (used size : ℕ) → used ≡ reported 3 report → Marked types page used mark size
    → Filled image query (take (size - 0) (drop 0 mark)) page report page' report' → Followed image query types page report page' report'
followed_by image query types page report mark page' report' used size u m h =
    let z : size - 0 ≡ size = omega arith in
    record { mark = mark; size = size; marked = subst (λ (i : ℕ). Marked types page i mark size) u m; filled = subst (λ (i : ℕ). Filled image query (take i mark) page report page' report') z h }

pub first_by : (image query bookmark page₀ report₀ page report : List ℕ) (k : ℕ) → Filled image query bookmark page₀ report₀ page report → bookmark ≡ [] → k ≡ reported 0 report → k ≡ 0 → First image query page report
first_by image query bookmark page₀ report₀ page report k h b e z = record { page₀ = page₀; report₀ = report₀; filled = subst (λ (x : List ℕ). Filled image query x page₀ report₀ page report) b h; granted = sym e ∙ z }
