-- The number and the row of each refusal of the check, and the cause that an outcome tells.
use Rattle.std.specs.Prelude.{ℕ, Result, ⊤}
use Rattle.meaning.specs.Basics.{Cause}
use Rattle.table.specs.Verdict.{told_of as pattern_told}
use Rattle.words.specs.Fault.{cause_by}
use Rattle.query.specs.declared.causes.Refusal.{Refusal}
use Rattle.query.specs.declared.causes.Refusal.TheVariants.{TypeAreaTooShort, BadLayout, BadName, BadPattern, Untyped}

-- 02, Q-1; the causes of a part are those of 01, 'Check a pattern'
abbrev pub told_of : Refusal → ℕ × ℕ
told_of TypeAreaTooShort = (17, 0)
told_of BadLayout = (31, 0)
told_of BadName = (32, 0)
told_of (BadPattern v) = pattern_told v
told_of Untyped = (33, 0)

abbrev pub cause_of : Result ⊤ Refusal → Cause
cause_of r = cause_by told_of r
