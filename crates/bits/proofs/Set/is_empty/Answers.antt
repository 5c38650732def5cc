-- `bits::Set::is_empty` meets its contract: the union of the words is 0, or has a least bit. Assumes nothing.
use borrow.Author.Rules.{rules}
use Rattle.bits.proofs.Empty.{empty_by}
use Rattle.bits.proofs.Set.is_empty.Goals as goal

pub returns : goal.returns
returns c = empty_by _ (λ i. search rules)
