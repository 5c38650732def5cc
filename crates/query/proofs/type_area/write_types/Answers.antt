use Rattle.query.proofs.AreaWays.{writing_none, writing_more, writing_all}
use native.Mathlib.Omega.{arith}
use Rattle.query.proofs.type_area.write_types.Goals as goal

pub loop-x-init : goal.loop-x-init
loop-x-init c = search (writing_none, arith)

pub loop-x-preserved : goal.loop-x-preserved
loop-x-preserved c = search (writing_more, arith)

pub returns : goal.returns
returns c = search (writing_all, arith)
