-- `conditions::bound::Bound::unknown` meets its contract. Assumes nothing.
use Rattle.conditions.proofs.Slots.{unbound}
use Rattle.conditions.proofs.bound.Bound.unknown.Goals as goal

pub returns : goal.returns
returns c = unbound
