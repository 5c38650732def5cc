-- `bits::Set::union` meets its contract: word by word. Assumes nothing.
use borrow.Author.Rules.{rules}
use Rattle.bits.proofs.Words.{union_words}
use Rattle.bits.proofs.Set.union.Goals as goal

pub returns : goal.returns
returns c = union_words c.by_words.ensures (λ x y s h. search rules)
