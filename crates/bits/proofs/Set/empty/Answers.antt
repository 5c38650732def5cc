-- `bits::Set::empty` meets its contract: four words of 0 are the empty set. Assumes nothing.
use Rattle.bits.proofs.Words.{empty_words}
use Rattle.bits.proofs.Set.empty.Goals as goal

pub returns : goal.returns
returns c = empty_words
