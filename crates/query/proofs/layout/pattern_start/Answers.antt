use Rattle.query.proofs.LayoutWays.{adding_none, adding_more, adding_all}
use native.Mathlib.Omega.{arith}
use Rattle.query.proofs.layout.pattern_start.Goals as goal

pub loop-k-init : goal.loop-k-init
loop-k-init c = search (adding_none, arith)

pub loop-k-preserved : goal.loop-k-preserved
loop-k-preserved c = search (adding_more, arith)

pub returns : goal.returns
returns c = search (adding_all, arith)
