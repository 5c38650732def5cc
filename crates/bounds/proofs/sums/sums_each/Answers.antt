-- `bounds::sums::sums_each` meets its contract. Assumes nothing.
use Rattle.bits.proofs.Walks.{walked_end, walked_first, walked_more}
use Rattle.bounds.proofs.SumWays.{summed_all, summed_more, summed_none}
use native.Mathlib.Omega.{arith}
use Rattle.bounds.proofs.sums.sums_each.Goals as goal

pub loop-k-init : goal.loop-k-init
loop-k-init c = search (walked_first, summed_none, arith)

pub loop-k-preserved : goal.loop-k-preserved
loop-k-preserved c = walked_more c.loop-k.invariant c.in-Some.ensures.steps (λ p n l. search (summed_more, arith))

pub returns : goal.returns
returns c = let w = walked_end c.loop-k.invariant c.in-None.ensures.steps in search (summed_all, arith)
