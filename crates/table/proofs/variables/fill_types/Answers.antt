use Rattle.table.proofs.Filling.{tabled_none, tabled_all, types_more}
use native.Mathlib.Omega.{arith}
use Rattle.table.proofs.variables.fill_types.Goals as goal

pub loop-k-init : goal.loop-k-init
loop-k-init c = search (tabled_none, arith)

pub loop-k-preserved : goal.loop-k-preserved
loop-k-preserved c = search (types_more, arith)

pub returns : goal.returns
returns c = search (tabled_all, arith)
