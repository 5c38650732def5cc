-- `bits::bit` meets its contract: a shift, a mask and a test are the bit. Assumes nothing.
use native.Mathlib.Omega.{arith}
use Rattle.bits.proofs.Bits.{bit_code}
use Rattle.bits.proofs.Masks.{bit_far}
use Rattle.bits.proofs.bit.Goals as goal

pub returns-else-k-lt64 : goal.returns-else-k-lt64
returns-else-k-lt64 c = search (bit_far, arith)

pub returns-then-k-lt64 : goal.returns-then-k-lt64
returns-then-k-lt64 c = search (bit_code, arith)
