-- `conditions::truth::may_hold` meets its contract. Assumes nothing.
use mathlib.Core.Path.{refl}
use Rattle.matcher.specs.Conditions.{may_hold_lem}
use Rattle.conditions.proofs.truth.may_hold.Goals as goal

pub returns : goal.returns
unfolding may_hold_lem
returns c = refl
