use Rattle.compiled.proofs.Reading.{second_is}
use native.Mathlib.Omega.{arith}
use Rattle.compiled.proofs.look.second_end.Goals as goal

pub returns : goal.returns
returns c = search (second_is, arith)
