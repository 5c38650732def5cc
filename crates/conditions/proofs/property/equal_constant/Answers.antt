-- `conditions::property::equal_constant` meets its contract. Assumes nothing.
use Rattle.conditions.proofs.Properties.{constant_is}
use native.Mathlib.Omega.{arith}
use Rattle.conditions.proofs.property.equal_constant.Goals as goal

pub returns : goal.returns
returns c = search (constant_is, arith)
