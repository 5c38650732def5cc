-- `bits::Set::single` meets its contract: by the laws of proofs/Made.antt. Assumes nothing.
use native.Mathlib.Omega.{arith}
use Rattle.bits.proofs.Made.{single_words}
use Rattle.bits.proofs.Set.single.Goals as goal

pub returns : goal.returns
returns c = search (single_words, arith)
