-- `bits::part` meets its contract: by the laws of proofs/Made.antt. Assumes nothing.
use native.Mathlib.Omega.{arith}
use Rattle.bits.proofs.Made.{part_here, part_away}
use Rattle.bits.proofs.part.Goals as goal

pub returns-then-k-i : goal.returns-then-k-i
returns-then-k-i c = search (part_here, arith)

pub returns-else-k-i : goal.returns-else-k-i
returns-else-k-i c = search (part_away, arith)
