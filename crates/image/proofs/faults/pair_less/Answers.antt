-- `image::faults::pair_less` meets its contract. Assumes nothing.
use native.Mathlib.Omega.{arith}
use Rattle.image.proofs.Order.{same_first, other_first}
use Rattle.image.proofs.faults.pair_less.Goals as goal

pub returns-then-a-c : goal.returns-then-a-c
returns-then-a-c c = search (same_first, arith)

pub returns-else-a-c : goal.returns-else-a-c
returns-else-a-c c = search (other_first, arith)
