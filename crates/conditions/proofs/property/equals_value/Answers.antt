-- `conditions::property::equals_value` meets its contract. Assumes nothing.
use native.Mathlib.Omega.{arith}
use Rattle.conditions.proofs.Properties.{value_absent, value_found, value_open}
use Rattle.conditions.proofs.property.equals_value.Goals as goal

pub returns-in-Open : goal.returns-in-Open
returns-in-Open c = search (value_open, arith)

pub returns-in-Absent : goal.returns-in-Absent
returns-in-Absent c = search (value_absent, arith)

pub returns-in-Found : goal.returns-in-Found
returns-in-Found c = search (value_found, arith)
