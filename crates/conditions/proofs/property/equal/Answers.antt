-- `conditions::property::equal` meets its contract. Assumes nothing.
use native.Mathlib.Omega.{arith}
use Rattle.conditions.proofs.Properties.{equal_absent, equal_value, open_absent, open_other}
use Rattle.conditions.proofs.property.equal.Goals as goal

pub returns-in-Found : goal.returns-in-Found
returns-in-Found c = search (equal_value, arith)

pub returns-in-Absent : goal.returns-in-Absent
returns-in-Absent c = search (equal_absent, arith)

pub returns-in-Absent-a : goal.returns-in-Absent-a
returns-in-Absent-a c = search (open_absent, arith)

pub returns-in_default : goal.returns-in_default
returns-in_default c = search (open_other, arith)
