use Rattle.calls.proofs.CompileWays.{types_all, types_more, types_none}
use native.Mathlib.Omega.{arith}
use Rattle.calls.proofs.compiling.types_of.Goals as goal

pub loop-x-init : goal.loop-x-init
loop-x-init c = search (types_none, arith)

pub loop-x-preserved : goal.loop-x-preserved
loop-x-preserved c = search (types_more, arith)

pub returns : goal.returns
returns c = search (types_all, arith)
