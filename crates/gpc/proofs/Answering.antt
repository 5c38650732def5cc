-- What each way through the judge's and the page's operation leaves.
use mathlib.Core.Path.{◌≡◌, refl, sym, ap, ◌∙◌}
use mathlib.Core.Bool.{Bool, ◌&&◌, true, false, not}
use mathlib.Core.Option.{none, some}
use mathlib.Core.List.{List, [], ◌++◌, ◌∷◌}
use Prim.Native.Nat.{ℕ, zero, suc, ◌≤◌}
use native.Mathlib.Omega.{arith}
use lib.Dec.{ltb}
use lib.ListN.{drop, length, replicate}
use borrow.Author.Tests.{le-ltb, leb-true, ltb-false}
use Rattle.meaning.proofs.Logic.{and_both, no_false, no_true, not_false, not_true}
use Rattle.meaning.specs.Basics.{first_of, rowless}
use Rattle.meaning.specs.Basics.{Cause as Fault}
use Rattle.meaning.specs.Operations.{JudgeLeft, judge_unless}
use Rattle.meaning.specs.Page.{Left, Lent, answerable, left}
use Rattle.meaning.specs.QueryListing.{fill_page_lem, fixed_by, judge_query, judge_record, query_fixed_fault}
use Rattle.meaning.specs.Report.{bit, cause_bytes, cleared, over, report_bytes, wide_enough_lem}
use Rattle.meaning.specs.Sitting.{holds_total}
use Rattle.search.proofs.PageCall.{call_refused, call_unanswered}
use Rattle.std.specs.Prelude.{Result, Ok, Err, is_err, ⊤}
use Rattle.words.specs.Fault.{is_refused}
use Rattle.gpc.specs.declared.Stopped.{Stopped}
use Rattle.gpc.specs.declared.Stopped.TheVariants.{NoReport, Reported}
use Rattle.gpc.specs.declared.refusal.Refusal.{Refusal}
use Rattle.gpc.specs.Cause.{cause_of}
use Rattle.gpc.specs.Answered.{Begun, FirstCause, JudgeReported, RestKept, answer_of}
use Rattle.gpc.proofs.Ways.{narrow_is, wide_is}

-- ------------------------------------------------------------------ the work buffer
pub drop_part : (n : ℕ) (ys w : List ℕ) → length ys ≡ n → drop n (ys ++ w) ≡ w
drop_part zero [] w e = refl
drop_part zero (y ∷ ys) w e = absurd (omega arith)
drop_part (suc n) [] w e = absurd (omega arith)
drop_part (suc n) (y ∷ ys) w e = drop_part n ys w (omega arith)

cleared_rest : (n : ℕ) (a image : List ℕ) → drop n a ≡ drop n image → cleared n a ≡ cleared n image
unfolding cleared
cleared_rest n a image e = ap (λ (w : List ℕ). replicate n 0 ++ w) e

-- ------------------------------------------------------------------ nothing refuses
pub verdict_reported : (image query rec work₀ report₀ work₁ work report : List ℕ) (verdict : Bool) (v : ℕ)
    → verdict ≡ judge_query image query rec → RestKept work₀ work₁ → work ≡ cleared 20000 work₁ → v ≡ bit verdict → report ≡ over (report_bytes 0 0 v 0 0 0) report₀
    → JudgeReported image query rec work₀ report₀ work report
verdict_reported image query rec work₀ report₀ work₁ work report verdict v e k c b w = record {
  work_is = c ∙ cleared_rest 20000 work₁ work₀ k.is;
  report_is = w ∙ ap (λ (x : ℕ). over (report_bytes 0 0 x 0 0 0) report₀) (b ∙ ap bit e);
}

-- ------------------------------------------------------------------ a cause, or none
is_refused_by : (v : Result ⊤ Refusal) → is_err v ≡ is_refused (cause_of v)
is_refused_by (Ok u) = refl
is_refused_by (Err e) = refl

-- v tells the first cause
module _ (image query work : List ℕ) (v : Result ⊤ Refusal) (first : FirstCause image query work v) where
  found : cause_of v ≡ first_of (query_fixed_fault image query) (rowless 22 (ltb (length work) 20000))
  found = first.is

  none_first : (a b : Fault) → is_refused (first_of a b) ≡ false → (a ≡ none) × (b ≡ none)
  unfolding first_of
  none_first none none e = (refl, refl)
  none_first none (some c) e = no_true e
  none_first (some c) b e = no_true e

  whole_none : (b : Bool) → rowless 22 b ≡ none → b ≡ false
  unfolding rowless
  whole_none true e = no_true (ap is_refused e)
  whole_none false e = refl

  neither : (r : Bool) → r ≡ is_err v → r ≡ false → (query_fixed_fault image query ≡ none) × (rowless 22 (ltb (length work) 20000) ≡ none)
  neither r e f = none_first (query_fixed_fault image query) (rowless 22 (ltb (length work) 20000)) (ap is_refused (sym found) ∙ (sym (is_refused_by v) ∙ (sym e ∙ f)))

  granted : (r : Bool) → r ≡ is_err v → r ≡ false → query_fixed_fault image query ≡ none
  granted r e f = (neither r e f).0

  roomy : (r : Bool) → r ≡ is_err v → r ≡ false → 20000 ≤ length work
  roomy r e f = ltb-false (length work) 20000 (whole_none (ltb (length work) 20000) (neither r e f).1)

  some_cause : (c : Fault) → is_refused c ≡ true → (x : ℕ × ℕ) × (c ≡ some x)
  some_cause none e = no_false e
  some_cause (some x) e = (x, refl)

  the_cause : (r : Bool) → r ≡ is_err v → r ≡ true → (x : ℕ × ℕ) × (cause_of v ≡ some x)
  the_cause r e f = some_cause (cause_of v) (sym (is_refused_by v) ∙ (sym e ∙ f))

  -- ---------------------------------------------------------------- how a call begins
  module _ (report₀ : List ℕ) (s : Bool) (area : s ≡ not (wide_enough_lem report₀)) where
    pub begun_refused : s ≡ false → (r : Bool) → r ≡ is_err v → r ≡ true → (report : List ℕ) → report ≡ over (cause_bytes (cause_of v)) report₀ → Begun image query work report₀ report (Err Reported)
    begun_refused h r e f report w =
        let x = the_cause r e f in
        record {
          unanswered_is = λ z. absurd (cc);
          refused_is = λ z. (wide_is report₀ s area h, (x.0, sym found ∙ x.1, w ∙ rw x.1 refl));
          granted_is = λ z. absurd (cc);
        }

    pub begun_granted : s ≡ false → (r : Bool) → r ≡ is_err v → r ≡ false → Begun image query work report₀ report₀ (Ok tt)
    begun_granted h r e f = record {
      unanswered_is = λ z. absurd (cc);
      refused_is = λ z. absurd (cc);
      granted_is = λ z. (wide_is report₀ s area h, granted r e f, roomy r e f, refl);
    }

pub begun_short : (image query work report : List ℕ) (s : Bool) → s ≡ not (wide_enough_lem report) → s ≡ true → Begun image query work report report (Err NoReport)
begun_short image query work report s e f = record {
  unanswered_is = λ z. (narrow_is report s e f, refl);
  refused_is = λ z. absurd (cc);
  granted_is = λ z. absurd (cc);
}

-- ------------------------------------------------------------------ the sitting
-- s is the answer of the test whether it is too short
module _ (sitting : List ℕ) (s : Bool) (told : s ≡ not (holds_total sitting)) where
  held : s ≡ false → holds_total sitting ≡ true
  held long = not_false (holds_total sitting) (sym told ∙ long)

  pub on_sitting : s ≡ false → 4 ≤ length sitting
  unfolding holds_total
  on_sitting long = leb-true 4 (length sitting) (held long)

  pub page_short : s ≡ true → (image query bookmark page work report : List ℕ)
      → ◌≡◌ {A = Left} (record { result = 0; sitting = sitting; page = page; work = work; report = report }) (fill_page_lem image query bookmark (record { sitting = sitting; page = page; work = work; report = report }))
  unfolding fill_page_lem fixed_by left answerable
  page_short h image query bookmark page work report =
      sym (call_unanswered (fixed_by image query) bookmark (record { sitting = sitting; page = page; work = work; report = report }) (rw (not_true (holds_total sitting) (sym told ∙ h)) (go (wide_enough_lem report))))
    where
      go : (b : Bool) → (b && false) ≡ false
      go true = refl
      go false = refl

-- ------------------------------------------------------------------ how it goes on
module _ (image query work report₀ report : List ℕ) (k : Result ⊤ Stopped) (begun : Begun image query work report₀ report k) where
  -- not refused
  pub on_granted : k ≡ Ok tt → query_fixed_fault image query ≡ none
  on_granted h = (begun.granted_is h).1

  pub on_roomy : k ≡ Ok tt → 20000 ≤ length work
  on_roomy h = (begun.granted_is h).2

  pub on_wide : k ≡ Ok tt → 64 ≤ length report
  unfolding wide_enough_lem
  on_wide h = let g = begun.granted_is h in rw g.3 (leb-true 64 (length report₀) g.0)

  -- ---------------------------------------------------------------- judge a record
  module _ (rec : List ℕ) where
    abbrev Judged : ℕ → List ℕ → List ℕ → Type 0
    Judged r w d = ◌≡◌ {A = JudgeLeft} (record { result = r; work = w; report = d }) (judge_record image query rec work report₀)

    judge_unanswered : k ≡ Err NoReport → Judged 0 work report
    unfolding judge_record
    judge_unanswered z = let u = begun.unanswered_is z in rw (u.0, u.1) refl

    judge_refused : k ≡ Err Reported → Judged 1 work report
    unfolding judge_record judge_unless
    judge_refused z = let u = begun.refused_is z in rw (u.0, u.1.1, u.1.2) refl

    pub judge_stopped : (s : Stopped) → k ≡ Err s → (r : ℕ) → r ≡ answer_of s → ◌≡◌ {A = JudgeLeft} (record { result = r; work = work; report = report }) (judge_record image query rec work report₀)
    judge_stopped NoReport z r e = rw e (judge_unanswered z)
    judge_stopped Reported z r e = rw e (judge_refused z)

    pub judge_answered : k ≡ Ok tt → (work₁ report₁ : List ℕ) → JudgeReported image query rec work report work₁ report₁
        → ◌≡◌ {A = JudgeLeft} (record { result = 1; work = work₁; report = report₁ }) (judge_record image query rec work report₀)
    unfolding judge_record judge_unless first_of rowless
    judge_answered h work₁ report₁ j =
        let u = begun.granted_is h in
        rw (u.0, u.1, le-ltb (length work) 20000 u.2, j.work_is, j.report_is, u.3) refl

  -- ---------------------------------------------------------------- fill a page
  module _ (bookmark sitting page₀ : List ℕ) (s : Bool) (told : s ≡ not (holds_total sitting)) (long : s ≡ false) where
    abbrev lent : Lent
    lent = record { sitting = sitting; page = page₀; work = work; report = report₀ }

    abbrev answered : ℕ → List ℕ → Left
    answered r d = record { result = r; sitting = sitting; page = page₀; work = work; report = d }

    page_unanswered : k ≡ Err NoReport → answered 0 report ≡ fill_page_lem image query bookmark lent
    unfolding fill_page_lem fixed_by left answerable
    page_unanswered z = let u = begun.unanswered_is z in rw u.1 (sym (call_unanswered (fixed_by image query) bookmark lent (rw u.0 refl)))

    page_refused : k ≡ Err Reported → answered 1 report ≡ fill_page_lem image query bookmark lent
    unfolding fill_page_lem fixed_by left answerable
    page_refused z = let u = begun.refused_is z in rw u.1.2 (sym (call_refused (fixed_by image query) bookmark lent (and_both u.0 (held sitting s told long)) u.1.0 u.1.1))

    pub page_stopped : (x : Stopped) → k ≡ Err x → (r : ℕ) → r ≡ answer_of x → ◌≡◌ {A = Left} (record { result = r; sitting = sitting; page = page₀; work = work; report = report }) (fill_page_lem image query bookmark (record { sitting = sitting; page = page₀; work = work; report = report₀ }))
    page_stopped NoReport z r e = rw e (page_unanswered z)
    page_stopped Reported z r e = rw e (page_refused z)

  pub page_answered : (bookmark sitting page₀ : List ℕ) → k ≡ Ok tt → (r : ℕ) (sitting₁ page work₁ report₁ : List ℕ)
      → ◌≡◌ {A = Left} (record { result = r; sitting = sitting₁; page = page; work = work₁; report = report₁ }) (fill_page_lem image query bookmark (record { sitting = sitting; page = page₀; work = work; report = report }))
      → ◌≡◌ {A = Left} (record { result = r; sitting = sitting₁; page = page; work = work₁; report = report₁ }) (fill_page_lem image query bookmark (record { sitting = sitting; page = page₀; work = work; report = report₀ }))
  page_answered bookmark sitting page₀ h r sitting₁ page work₁ report₁ e =
      e ∙ ap (λ (d : List ℕ). fill_page_lem image query bookmark (record { sitting = sitting; page = page₀; work = work; report = d })) (begun.granted_is h).3
