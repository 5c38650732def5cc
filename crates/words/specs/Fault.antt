-- Whether a cause refuses, and the cause that an outcome tells.
use Rattle.std.specs.Prelude.{Bool, false, true, ℕ, Option, Some, None, Result, Ok, Err, ⊤}
use Rattle.std.proofs.Math.Option as Math
use Rattle.std.proofs.Math.Option.{none, some}
use Rattle.meaning.specs.Basics.{Cause}

abbrev pub is_refused : Cause → Bool
is_refused none = false
is_refused (some c) = true

-- the cause that an outcome tells, where f gives the number and the row of a refusal
abbrev pub cause_by : {E : Type 0} → (E → ℕ × ℕ) → Result ⊤ E → Cause
cause_by f (Ok u) = none
cause_by f (Err e) = some (f e)

-- the row that was found, if one was
abbrev pub found_row : Option ℕ → Math.Option ℕ
found_row None = none
found_row (Some i) = some i
