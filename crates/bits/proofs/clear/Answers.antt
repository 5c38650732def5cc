-- `bits::clear` meets its contract. Assumes nothing.
use borrow.Author.Rules.{rules}
use Rattle.bits.proofs.Masks.{clear_mask}
use Rattle.bits.proofs.clear.Goals as goal

pub returns : goal.returns
returns c = search (clear_mask, rules)
