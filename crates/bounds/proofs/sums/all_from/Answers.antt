-- `bounds::sums::all_from` meets its contract. Assumes nothing.
use Rattle.bounds.proofs.SumWays.{all_from_is}
use native.Mathlib.Omega.{arith}
use Rattle.bounds.proofs.sums.all_from.Goals as goal

pub returns : goal.returns
returns c = search (all_from_is, arith)
