use Rattle.table.proofs.Filling.{weight_none, weight_one}
use native.Mathlib.Omega.{arith}
use Rattle.table.proofs.variables.weight.Goals as goal

pub returns-then-row_type-eq0 : goal.returns-then-row_type-eq0
returns-then-row_type-eq0 c = search (weight_none, arith)

pub returns : goal.returns
returns c = search (weight_one, arith)
