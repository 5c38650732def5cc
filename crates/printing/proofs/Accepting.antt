-- A first call that reports no refusal: nothing refuses the listing, and the checker's words are the types. Assumes nothing.
use Rattle.std.proofs.Common.{◌≡◌, ℕ, ◌≤◌, Bool, true, false, ltb, List, [], ◌∷◌, ◌++◌, length, drop, sym, refl, ap, ◌∙◌, subst, append-nil, arith, drop_of_length-le, le-ltb, le-leb}
use mathlib.Core.Option.{Option, none, some}
use Rattle.meaning.proofs.Accepted.{Accepted}
use Rattle.meaning.proofs.Causes.{first_none}
use Rattle.meaning.proofs.Granted.{pattern_accepted}
use Rattle.meaning.proofs.Logic.{and_both, no_none, some_inj}
use Rattle.meaning.proofs.OnePart.{Alone, alone_is, one_check, one_query}
use Rattle.meaning.proofs.OnePartRead.{one_size}
use Rattle.meaning.proofs.QueryTold.{query_types_length}
use Rattle.meaning.specs.Answer.{Restrictor, restrictor_of}
use Rattle.meaning.specs.Basics.{Cause, at_row, first_of, rowless}
use Rattle.meaning.specs.Image.{image_fault, row_fault}
use Rattle.meaning.specs.Operations.{CheckLeft}
use Rattle.meaning.specs.Page.{Left, Lent, answerable, left, refused}
use Rattle.meaning.specs.Pattern.{Pattern}
use Rattle.meaning.specs.Query.{Query, unnamed}
use Rattle.meaning.specs.QueryListing.{check_query, fixed_by, page_of, query_fixed_fault, query_in, types_or_zeros}
use Rattle.meaning.specs.QueryRecord.{query_record_size}
use Rattle.meaning.specs.QueryWords.{Part, bad_restrictor, parts_fault, parts_of, query_fault, query_type_words}
use Rattle.meaning.specs.Report.{cause_bytes, over, reported, wide_enough_lem}
use Rattle.meaning.specs.Sitting.{holds_total}
use Rattle.meaning.specs.Table.{pattern_fault, pattern_of, row_cause, table_fault}
use Rattle.meaning.specs.Typing.{type_of}
use Rattle.search.proofs.PageCall.{call_refused}
use Rattle.printing.specs.Run.{First, OnePart, Roomy, TypesOf, lent_of}
use Rattle.printing.specs.Sizes.{TypesAt}
use Rattle.printing.proofs.Area.{types_at}
use Rattle.printing.proofs.Reported.{refusal_read}

-- ------------------------------------------------------------------ the numbers of refusals
abbrev Known : Cause → Type 0
Known c = (f : ℕ × ℕ) → c ≡ some f → (1 ≤ f.0) × (f.0 ≤ 33)

first_known : (a b : Cause) → Known a → Known b → Known (first_of a b)
unfolding first_of
first_known none b h k = k
first_known (some x) b h k = h

rowless_known : (m : ℕ) → 1 ≤ m → m ≤ 33 → (t : Bool) → Known (rowless m t)
unfolding rowless
rowless_known m h k true f e = let q : m ≡ f.0 = ap (λ (p : ℕ × ℕ). p.0) (some_inj e) in (omega (arith, h, q), omega (arith, k, q))
rowless_known m h k false f e = no_none e

row_known : (m : ℕ) → 1 ≤ m → m ≤ 33 → (o : Option ℕ) → Known (at_row m o)
unfolding at_row
row_known m h k none f e = no_none e
row_known m h k (some i) f e = let q : m ≡ f.0 = ap (λ (p : ℕ × ℕ). p.0) (some_inj e) in (omega (arith, h, q), omega (arith, k, q))

image_known : (image : List ℕ) → Known (image_fault image)
unfolding image_fault row_fault
image_known image =
    first_known _ _ (rowless_known 1 (omega arith) (omega arith) _) (first_known _ _ (rowless_known 2 (omega arith) (omega arith) _) (first_known _ _ (rowless_known 3 (omega arith) (omega arith) _)
    (first_known _ _ (row_known 4 (omega arith) (omega arith) _) (first_known _ _ (row_known 5 (omega arith) (omega arith) _) (first_known _ _ (row_known 6 (omega arith) (omega arith) _) (row_known 7 (omega arith) (omega arith) _))))))

pattern_known : (pattern : List ℕ) → Known (pattern_fault pattern)
unfolding pattern_fault table_fault row_cause
pattern_known pattern =
    first_known _ _ (rowless_known 11 (omega arith) (omega arith) _) (first_known _ _ (row_known 12 (omega arith) (omega arith) _) (first_known _ _ (row_known 13 (omega arith) (omega arith) _)
    (first_known _ _ (row_known 14 (omega arith) (omega arith) _) (first_known _ _ (row_known 15 (omega arith) (omega arith) _) (row_known 16 (omega arith) (omega arith) _)))))

parts_known : (l : List Part) → Known (parts_fault l)
unfolding parts_fault
parts_known [] f e = no_none e
parts_known (a ∷ l) f e = first_known (pattern_fault a.words) (parts_fault l) (pattern_known a.words) (parts_known l) f e

query_known : (query : List ℕ) → Known (query_fault query)
unfolding query_fault
query_known query =
    first_known _ _ (rowless_known 31 (omega arith) (omega arith) _) (first_known _ _ (rowless_known 32 (omega arith) (omega arith) _) (first_known _ _ (parts_known (parts_of query)) (rowless_known 33 (omega arith) (omega arith) _)))

fixed_known : (image query : List ℕ) → Known (query_fixed_fault image query)
unfolding query_fixed_fault
fixed_known image query =
    first_known (image_fault image) _ (image_known image) (first_known (query_fault query) _ (query_known query) (rowless_known 21 (omega arith) (omega arith) _))

-- ------------------------------------------------------------------ no refusal reported
refusal_reported : (c : Lent) (f : ℕ × ℕ) → f.0 ≤ 33 → reported 0 (left c (refused f)).report ≡ f.0
unfolding left over cause_bytes
refusal_reported c f h = refusal_read f.0 f.1 0 0 0 0 (drop (length (cause_bytes (some f))) c.report) (omega (arith, h))

module _ (image query : List ℕ) where
  first_some : (c : Lent) (f : ℕ × ℕ) → query_fixed_fault image query ≡ some f → first_of (fixed_by image query).fault (rowless 22 (ltb (length c.work) 20000)) ≡ some f
  unfolding first_of fixed_by
  first_some c f e = ap (λ (x : Cause). first_of x (rowless 22 (ltb (length c.work) 20000))) e

  refusal_is : (bookmark : List ℕ) (c : Lent) (f : ℕ × ℕ) → Roomy c → query_fixed_fault image query ≡ some f → (page_of (fixed_by image query) bookmark c).left ≡ left c (refused f)
  unfolding answerable wide_enough_lem holds_total
  refusal_is bookmark c f r e = call_refused (fixed_by image query) bookmark c (rw r.fresh (and_both (le-leb 64 (length c.report) (omega (arith, r.report))) refl)) f (first_some c f e)

  pub no_fault : (page report : List ℕ) → First image query page report → query_fixed_fault image query ≡ none
  no_fault page report h = go (query_fixed_fault image query) refl
    where
      go : (c : Cause) → query_fixed_fault image query ≡ c → c ≡ none
      go none e = refl
      go (some f) e =
          let l : Lent = lent_of h.page₀ h.report₀ in
          let k = fixed_known image query f e in
          let r : report ≡ (left l (refused f)).report = h.filled.report_is ∙ ap (λ (x : Left). x.report) (refusal_is [] l f h.filled.roomy e) in
          let z : reported 0 report ≡ f.0 = ap (reported 0) r ∙ refusal_reported l f k.1 in
          absurd (omega (arith, z, h.granted, k.0))

  pub no_query_fault : (page report : List ℕ) → First image query page report → query_fault query ≡ none
  unfolding query_fixed_fault
  no_query_fault page report h =
      let last : Cause = rowless 21 (bad_restrictor (parts_of query)) in
      (first_none (query_fault query) last (first_none (image_fault image) (first_of (query_fault query) last) (no_fault page report h)).1).0

-- ------------------------------------------------------------------ the types
module _ (query types : List ℕ) (h : length types ≡ 72) where
  checked_types : (report : List ℕ) → length report ≡ 64 → (check_query query types report).types ≡ over (types_or_zeros (query_fault query) query) types
  unfolding check_query wide_enough_lem
  checked_types report l = rw (le-leb 64 (length report) (omega (arith, l)), le-ltb (length types) 72 (omega (arith, h))) refl

  over_area : query_fault query ≡ none → over (types_or_zeros (query_fault query) query) types ≡ query_type_words (query_in query)
  unfolding over types_or_zeros
  over_area e =
      let t : List ℕ = query_type_words (query_in query) in
      let d : drop (length t) types ≡ [] = drop_of_length-le types {i = length t} (omega (arith, query_types_length (query_in query), h)) in
      rw e (ap (λ (w : List ℕ). t ++ w) d ∙ append-nil t)

-- of one part without a name
types_of : (query : List ℕ) (a : Part) → Alone query a → query_fault query ≡ none → TypesOf query (query_type_words (query_in query))
types_of query a alone e =
    let ρ : Restrictor = restrictor_of a.restrictor in
    let π : Pattern = pattern_of a.words in
    let ok : Accepted π = pattern_accepted a.words (sym (one_check query a alone) ∙ e) in
    let q : query_in query ≡ unnamed ρ π = one_query query a alone in
    record { found = type_of π; at = subst (λ (Q : Query). TypesAt (type_of π) (query_type_words Q)) (sym q) (types_at ρ π ok); size_is = λ w. ap (λ (Q : Query). query_record_size Q w) q ∙ one_size ρ π ok w }

pub types_checked : (query types₀ report₀ types report : List ℕ) (r : ℕ) → length types₀ ≡ 72 → length report₀ ≡ 64 → OnePart query → query_fault query ≡ none
    → ◌≡◌ {A = CheckLeft} (record { result = r; types = types; report = report }) (check_query query types₀ report₀) → TypesOf query types
types_checked query types₀ report₀ types report r k l o e h =
    let t : types ≡ query_type_words (query_in query) = ap (λ (x : CheckLeft). x.types) h ∙ (checked_types query types₀ k report₀ l ∙ over_area query types₀ k e) in
    let a : Part = record { restrictor = o.restrictor; name = 0; words = o.pattern } in
    subst (TypesOf query) (sym t) (types_of query a (subst (λ (w : List ℕ). Alone w a) (sym o.is) (alone_is o.restrictor o.pattern)) e)
