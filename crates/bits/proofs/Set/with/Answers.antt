-- `bits::Set::with` meets its contract: a union with one number. Assumes nothing.
use native.Mathlib.Omega.{arith}
use Rattle.bits.proofs.Made.{with_words}
use Rattle.bits.proofs.Set.with.Goals as goal

pub returns : goal.returns
returns c = search (with_words, arith)
