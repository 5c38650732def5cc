-- `bits::Set::meet` meets its contract: word by word. Assumes nothing.
use borrow.Author.Rules.{rules}
use Rattle.bits.proofs.Words.{meet_words}
use Rattle.bits.proofs.Set.meet.Goals as goal

pub returns : goal.returns
returns c = meet_words c.by_words.ensures (λ x y s h. search rules)
