-- The number and the row of each refusal of a call, and the cause that an outcome tells.
use Rattle.std.specs.Prelude.{ℕ, Result, ⊤}
use Rattle.meaning.specs.Basics.{Cause}
use Rattle.image.specs.Verdict.{told_of as read_told}
use Rattle.query.specs.Verdict.{told_of as check_told}
use Rattle.words.specs.Fault.{cause_by}
use Rattle.gpc.specs.declared.refusal.Refusal.{Refusal}
use Rattle.gpc.specs.declared.refusal.Refusal.TheVariants.{Image, Query, Restrictor, ShortWork}

-- 01, 'Judge a record' and 'Fill a page'; 02, Q-1
abbrev pub told_of : Refusal → ℕ × ℕ
told_of (Image v) = read_told v
told_of (Query v) = check_told v
told_of Restrictor = (21, 0)
told_of ShortWork = (22, 0)

abbrev pub cause_of : Result ⊤ Refusal → Cause
cause_of r = cause_by told_of r
