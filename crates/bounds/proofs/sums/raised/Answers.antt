-- `bounds::sums::raised` meets its contract. Assumes nothing.
use Rattle.bounds.proofs.SumWays.{raised_is}
use native.Mathlib.Omega.{arith}
use Rattle.bounds.proofs.sums.raised.Goals as goal

pub returns : goal.returns
returns c = search (raised_is, arith)
