use Rattle.compiled.proofs.Reading.{first_is}
use native.Mathlib.Omega.{arith}
use Rattle.compiled.proofs.look.first_end.Goals as goal

pub returns : goal.returns
returns c = search (first_is, arith)
