-- `bits::Set::minus` meets its contract: word by word. Assumes nothing.
use borrow.Author.Rules.{rules}
use Rattle.bits.proofs.Words.{minus_words}
use Rattle.bits.proofs.Set.minus.Goals as goal

pub returns : goal.returns
returns c = minus_words c.by_words.ensures (λ i. search rules) (λ x y s h. search rules)
