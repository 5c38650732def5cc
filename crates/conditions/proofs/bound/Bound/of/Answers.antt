-- `conditions::bound::Bound::of` meets its contract. Assumes nothing.
use mathlib.Core.Path.{refl}
use Rattle.conditions.specs.Bound.{bound_of}
use Rattle.conditions.proofs.bound.Bound.of.Goals as goal

pub returns : goal.returns
unfolding bound_of
returns c = refl
