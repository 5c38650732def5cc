-- `bits::Set::has` meets its contract: a shift, a mask and a test are the bit. Assumes nothing.
use native.Mathlib.Omega.{arith}
use Rattle.bits.proofs.Masks.{has_far, has_near}
use Rattle.bits.proofs.Set.has.Goals as goal

pub returns-else-k-lt-END : goal.returns-else-k-lt-END
returns-else-k-lt-END c = search (has_far, arith)

pub returns-then-k-lt-END : goal.returns-then-k-lt-END
returns-then-k-lt-END c = search (has_near, arith)
