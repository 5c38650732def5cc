use Rattle.table.proofs.Filling.{one_is}
use native.Mathlib.Omega.{arith}
use Rattle.table.proofs.variables.one.Goals as goal

pub returns : goal.returns
returns c = search (one_is, arith)
