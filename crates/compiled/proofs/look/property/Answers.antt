use Rattle.compiled.proofs.Reading.{properties_risen}
use Rattle.compiled.proofs.Finding.{value_absent, value_here}
use native.Mathlib.Omega.{arith}
use Rattle.compiled.proofs.look.property.Goals as goal

pub find-requires : goal.find-requires
find-requires c = search (properties_risen, arith)

pub returns-in_err-w : goal.returns-in_err-w
returns-in_err-w c = search (value_absent, arith)

pub returns : goal.returns
returns c = search (value_here, arith)
