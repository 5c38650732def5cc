-- `conditions::truth::unknown` meets its contract. Assumes nothing.
use mathlib.Core.Path.{refl}
use Rattle.matcher.specs.Conditions.{the_truth}
use Rattle.conditions.proofs.truth.unknown.Goals as goal

pub returns : goal.returns
unfolding the_truth
returns c = refl
