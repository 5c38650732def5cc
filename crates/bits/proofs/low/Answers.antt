-- `bits::low` meets its contract. Assumes nothing.
use native.Mathlib.Omega.{arith}
use Rattle.bits.proofs.Masks.{low_far, low_near, one_there}
use Rattle.bits.proofs.low.Goals as goal

pub returns-else-n-lt64 : goal.returns-else-n-lt64
returns-else-n-lt64 c = search (low_far, arith)

pub overflow_sub-result : goal.overflow_sub-result
overflow_sub-result c = search (one_there, arith)

pub returns-then-n-lt64 : goal.returns-then-n-lt64
returns-then-n-lt64 c = search (low_near, arith)
