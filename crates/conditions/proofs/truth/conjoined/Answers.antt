-- `conditions::truth::conjoined` meets its contract. Assumes nothing.
use mathlib.Core.Path.{refl}
use Rattle.matcher.specs.Conditions.{and_truths}
use Rattle.conditions.proofs.truth.conjoined.Goals as goal

pub returns : goal.returns
unfolding and_truths
returns c = refl
