use Rattle.query.proofs.Behind.{behind_none}
use Rattle.query.proofs.NameWays.{used_here, used_later, used_nowhere}
use native.Mathlib.Omega.{arith}
use Rattle.query.proofs.names.name_used.Goals as goal

pub loop-j-init : goal.loop-j-init
loop-j-init c = search (behind_none, arith)

pub returns-then-name-part : goal.returns-then-name-part
returns-then-name-part c = search (used_here, arith)

pub loop-j-preserved : goal.loop-j-preserved
loop-j-preserved c = search (used_later, arith)

pub returns : goal.returns
returns c = search (used_nowhere, arith)
