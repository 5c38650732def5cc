-- `conditions::truth::decided` meets its contract. Assumes nothing.
use native.Mathlib.Omega.{arith}
use Rattle.conditions.proofs.Connectives.{decided_is}
use Rattle.conditions.proofs.truth.decided.Goals as goal

pub returns : goal.returns
returns c = search (decided_is, arith)
