-- The number and the row of each refusal of the check, and the cause that an outcome tells.
use Rattle.std.specs.Prelude.{ℕ, Result, ⊤}
use Rattle.meaning.specs.Basics.{Cause}
use Rattle.words.specs.Fault.{cause_by}
use Rattle.table.specs.declared.causes.Refusal.{Refusal}
use Rattle.table.specs.declared.causes.Refusal.TheVariants.{BadLength, BadRow}
use Rattle.table.specs.Ready.{number_of_fault}

-- 01, 'Check a pattern'
abbrev pub told_of : Refusal → ℕ × ℕ
told_of BadLength = (11, 0)
told_of (BadRow fault i) = (number_of_fault fault, i)

abbrev pub cause_of : Result ⊤ Refusal → Cause
cause_of r = cause_by told_of r
