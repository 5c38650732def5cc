-- What a call leaves that nothing refuses.
use Rattle.std.specs.Prelude.{◌≡◌, List, false, true, ℕ, ◌≤◌, ltb, drop, length, Result, Ok, Err, ⊤}
use Rattle.std.proofs.Math.Option.{none, some}
use Rattle.meaning.specs.Basics.{first_of, rowless}
use Rattle.meaning.specs.QueryListing.{judge_query, query_fixed_fault}
use Rattle.meaning.specs.Report.{bit, cause_bytes, cleared, over, report_bytes, wide_enough_lem}
use Rattle.gpc.specs.Cause.{cause_of}
use Rattle.gpc.specs.declared.Stopped.{Stopped}
use Rattle.gpc.specs.declared.Stopped.TheVariants.{NoReport, Reported}
use Rattle.gpc.specs.declared.refusal.Refusal.{Refusal}

-- c tells the first cause that refuses a call, in the order of 01 and 02
pub record FirstCause (image query work : List ℕ) (c : Result ⊤ Refusal) : Type 0 where
  pub is : cause_of c ≡ first_of (query_fixed_fault image query) (rowless 22 (ltb (length work) 20000))

-- what a call answers that goes no further
abbrev pub answer_of : Stopped → ℕ
answer_of NoReport = 0
answer_of Reported = 1

-- how a call begins: it stops if the report has no room, or if a cause refuses it, and then report tells the cause
pub record Begun (image query work report₀ report : List ℕ) (r : Result ⊤ Stopped) : Type 0 where
  pub unanswered_is : r ≡ Err NoReport → (wide_enough_lem report₀ ≡ false) × (report ≡ report₀)
  pub refused_is : r ≡ Err Reported → (wide_enough_lem report₀ ≡ true) × ((f : ℕ × ℕ) × (first_of (query_fixed_fault image query) (rowless 22 (ltb (length work) 20000)) ≡ some f) × (report ≡ over (cause_bytes (some f)) report₀))
  pub granted_is : r ≡ Ok tt → (wide_enough_lem report₀ ≡ true) × (query_fixed_fault image query ≡ none) × (20000 ≤ length work) × (report ≡ report₀)

-- the words past the first 20,000 are as they were
pub record RestKept (work₀ work : List ℕ) : Type 0 where
  pub is : drop 20000 work ≡ drop 20000 work₀

-- yes or no is reported, and the first 20,000 words of work are 0
pub record JudgeReported (image query rec work₀ report₀ work report : List ℕ) : Type 0 where
  pub work_is : work ≡ cleared 20000 work₀
  pub report_is : report ≡ over (report_bytes 0 0 (bit (judge_query image query rec)) 0 0 0) report₀
