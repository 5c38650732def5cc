-- `bits::Set::shift_up` meets its contract: each word shifted, with the top bit of the word before. Assumes nothing.
use borrow.Author.Rules.{rules}
use Rattle.bits.proofs.Shift.{up_words}
use Rattle.bits.proofs.Set.shift_up.Goals as goal

pub returns : goal.returns
returns c = up_words _ (λ i. search rules)
