-- Of the operations open to C, as functions from what they are lent to what they return and leave: reading an image, and what the others
-- leave. Those over a query are in QueryListing.
use Rattle.std.specs.Prelude.{List, Bool, ℕ, if◌then◌else◌}
use Rattle.std.proofs.Math.Option.{none, some}
use Rattle.meaning.specs.Basics.{Cause}
use Rattle.meaning.specs.Image.{image_fault}
use Rattle.meaning.specs.Report.{over, report_bytes, wide_enough_lem, cause_bytes, bit, cleared}

-- read an image
pub record ReadLeft : Type 0 where
  pub result : ℕ
  pub report : List ℕ

unfoldable pub read_image : List ℕ → List ℕ → ReadLeft
read_image image report =
    if wide_enough_lem report
    then record { result = 1; report = over (cause_bytes (image_fault image)) report }
    else record { result = 0; report = report }

-- check a query
pub record CheckLeft : Type 0 where
  pub result : ℕ
  pub types : List ℕ
  pub report : List ℕ

-- judge a record
pub record JudgeLeft : Type 0 where
  pub result : ℕ
  pub work : List ℕ
  pub report : List ℕ

unfoldable pub judge_unless : Cause → Bool → List ℕ → List ℕ → JudgeLeft
judge_unless none verdict work report = record { result = 1; work = cleared 20000 work; report = over (report_bytes 0 0 (bit verdict) 0 0 0) report }
judge_unless (some c) verdict work report = record { result = 1; work = work; report = over (cause_bytes (some c)) report }
