-- `conditions::truth::disjoined` meets its contract. Assumes nothing.
use Rattle.conditions.proofs.Connectives.{or_is}
use native.Mathlib.Omega.{arith}
use Rattle.conditions.proofs.truth.disjoined.Goals as goal

pub returns : goal.returns
returns c = search (or_is, arith)
