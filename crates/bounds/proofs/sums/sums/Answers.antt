-- `bounds::sums::sums` meets its contract. Assumes nothing.
use Rattle.bounds.proofs.SumWays.{sums_tail, sums_turned}
use native.Mathlib.Omega.{arith}
use Rattle.bounds.proofs.sums.sums.Goals as goal

pub returns-then-is_tail : goal.returns-then-is_tail
returns-then-is_tail c = search (sums_tail, arith)

pub returns : goal.returns
returns c = search (sums_turned, arith)
