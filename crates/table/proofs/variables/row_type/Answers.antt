use Rattle.table.proofs.Filling.{type_found}
use native.Mathlib.Omega.{arith}
use Rattle.table.proofs.variables.row_type.Goals as goal

pub returns : goal.returns
returns c = search (type_found, arith)
