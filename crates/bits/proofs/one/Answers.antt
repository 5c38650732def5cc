-- `bits::one` meets its contract. Assumes nothing.
use native.Mathlib.Omega.{arith}
use Rattle.bits.proofs.Masks.{one_far, one_near}
use Rattle.bits.proofs.one.Goals as goal

pub returns-else-k-lt64 : goal.returns-else-k-lt64
returns-else-k-lt64 c = search (one_far, arith)

pub returns-then-k-lt64 : goal.returns-then-k-lt64
returns-then-k-lt64 c = search (one_near, arith)
