use Rattle.compiled.proofs.Copying.{properties_room}
use Rattle.compiled.proofs.Putting.{put_all, put_more, put_none}
use native.Mathlib.Omega.{arith}
use Rattle.compiled.proofs.fill.fill_properties.Goals as goal

pub loop-i-init : goal.loop-i-init
loop-i-init c = search (properties_room, put_none, arith)

pub loop-i-preserved : goal.loop-i-preserved
loop-i-preserved c = search (put_more, arith)

pub returns : goal.returns
returns c = search (put_all, arith)
