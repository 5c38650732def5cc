-- `bits::Set::below` meets its contract: by the laws of proofs/Made.antt. Assumes nothing.
use native.Mathlib.Omega.{arith}
use Rattle.bits.proofs.Made.{below_words}
use Rattle.bits.proofs.Set.below.Goals as goal

pub returns : goal.returns
returns c = search (below_words, arith)
