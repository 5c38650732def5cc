use Rattle.table.proofs.Filling.{gathering_none, gathering_more, gathering_all}
use native.Mathlib.Omega.{arith}
use Rattle.table.proofs.variables.row_variables.Goals as goal

pub loop-x-init : goal.loop-x-init
loop-x-init c = search (gathering_none, arith)

pub loop-x-preserved : goal.loop-x-preserved
loop-x-preserved c = search (gathering_more, arith)

pub returns : goal.returns
returns c = search (gathering_all, arith)
