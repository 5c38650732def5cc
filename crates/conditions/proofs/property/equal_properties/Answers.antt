-- `conditions::property::equal_properties` meets its contract. Assumes nothing.
use Rattle.conditions.proofs.Properties.{properties_are}
use native.Mathlib.Omega.{arith}
use Rattle.conditions.proofs.property.equal_properties.Goals as goal

pub returns : goal.returns
returns c = search (properties_are, arith)
