-- The number and the row of each refusal of the reader, and the cause that an outcome tells.
use Rattle.std.specs.Prelude.{ℕ, Result, ⊤}
use Rattle.meaning.specs.Basics.{Cause}
use Rattle.words.specs.Fault.{cause_by}
use Rattle.image.specs.declared.reader.Refusal.{Refusal}
use Rattle.image.specs.declared.reader.Refusal.TheVariants.{TooShort, BadDirectory, TooManyRows, BadRow}
use Rattle.image.specs.Faults.{number_of_section}

-- 01, 'Read an image'
abbrev pub told_of : Refusal → ℕ × ℕ
told_of TooShort = (1, 0)
told_of BadDirectory = (2, 0)
told_of TooManyRows = (3, 0)
told_of (BadRow section i) = (number_of_section section, i)

abbrev pub cause_of : Result ⊤ Refusal → Cause
cause_of r = cause_by told_of r
