-- `conditions::truth::any_truth` meets its contract. Assumes nothing.
use mathlib.Core.Path.{refl}
use Rattle.matcher.specs.Conditions.{any_truth_lem}
use Rattle.conditions.proofs.truth.any_truth.Goals as goal

pub returns : goal.returns
unfolding any_truth_lem
returns c = refl
