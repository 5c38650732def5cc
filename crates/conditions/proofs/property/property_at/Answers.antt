-- `conditions::property::property_at` meets its contract. Assumes nothing.
use Rattle.conditions.proofs.Properties.{property_absent, property_found, property_open}
use native.Mathlib.Omega.{arith}
use Rattle.conditions.proofs.property.property_at.Goals as goal

pub returns-in-None : goal.returns-in-None
returns-in-None c = search (property_open, arith)

pub returns-in-Some-property : goal.returns-in-Some-property
returns-in-Some-property c = search (property_found, arith)

pub returns-in-None-property : goal.returns-in-None-property
returns-in-None-property c = search (property_absent, arith)
