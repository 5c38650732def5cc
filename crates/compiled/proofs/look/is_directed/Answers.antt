use Rattle.compiled.proofs.Reading.{directed_is}
use native.Mathlib.Omega.{arith}
use Rattle.compiled.proofs.look.is_directed.Goals as goal

pub returns : goal.returns
returns c = search (directed_is, arith)
