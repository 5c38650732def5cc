-- `bits::or` meets its contract. Assumes nothing.
use Rattle.bits.proofs.Masks.{or_mask}
use Rattle.bits.proofs.or.Goals as goal

pub returns : goal.returns
returns c = or_mask _ _
