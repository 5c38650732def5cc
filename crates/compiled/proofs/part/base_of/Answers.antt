use Rattle.compiled.proofs.Parts.{base_other, base_trail}
use native.Mathlib.Omega.{arith}
use Rattle.compiled.proofs.part.base_of.Goals as goal

pub returns-in-1 : goal.returns-in-1
returns-in-1 c = search (base_trail, arith)

pub returns-in_default : goal.returns-in_default
returns-in_default c = search (base_other, arith)
