-- `bounds::sums::carried` meets its contract. Assumes nothing.
use Rattle.bounds.proofs.SumWays.{carried_is}
use native.Mathlib.Omega.{arith}
use Rattle.bounds.proofs.sums.carried.Goals as goal

pub returns : goal.returns
returns c = search (carried_is, arith)
