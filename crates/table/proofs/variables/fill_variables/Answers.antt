use Rattle.table.proofs.Filling.{tabled_none, tabled_all, variables_more}
use native.Mathlib.Omega.{arith}
use Rattle.table.proofs.variables.fill_variables.Goals as goal

pub loop-i-init : goal.loop-i-init
loop-i-init c = search (tabled_none, arith)

pub loop-i-preserved : goal.loop-i-preserved
loop-i-preserved c = search (variables_more, arith)

pub returns : goal.returns
returns c = search (tabled_all, arith)
