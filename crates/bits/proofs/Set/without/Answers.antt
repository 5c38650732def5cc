-- `bits::Set::without` meets its contract: a difference with one number. Assumes nothing.
use native.Mathlib.Omega.{arith}
use Rattle.bits.proofs.Made.{without_words}
use Rattle.bits.proofs.Set.without.Goals as goal

pub returns : goal.returns
returns c = search (without_words, arith)
