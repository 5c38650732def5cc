-- `conditions::truth::negated` meets its contract. Assumes nothing.
use mathlib.Core.Path.{refl}
use Rattle.matcher.specs.Conditions.{not_truths}
use Rattle.conditions.proofs.truth.negated.Goals as goal

pub returns : goal.returns
unfolding not_truths
returns c = refl
