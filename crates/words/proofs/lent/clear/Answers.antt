-- `words::lent::clear` meets its contract. Assumes nothing.
use native.Mathlib.Omega.{arith}
use Rattle.std.proofs.lemmas.Grind.{common_steps}
use Rattle.meaning.specs.Report.{cleared}
use Rattle.words.proofs.lent.clear.Goals as goal

pub returns : goal.returns
unfolding cleared
returns c = let f = c.fill.ensures.after (λ y e. e) in grind (arith, common_steps, f)
