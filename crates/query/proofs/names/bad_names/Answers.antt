use Rattle.query.proofs.Behind.{behind_none}
use Rattle.query.proofs.NameWays.{names_here, names_later, names_right}
use native.Mathlib.Omega.{arith}
use Rattle.query.proofs.names.bad_names.Goals as goal

pub loop-i-init : goal.loop-i-init
loop-i-init c = search (behind_none, arith)

pub returns-then-bad_name : goal.returns-then-bad_name
returns-then-bad_name c = search (names_here, arith)

pub loop-i-preserved : goal.loop-i-preserved
loop-i-preserved c = search (names_later, arith)

pub returns : goal.returns
returns c = search (names_right, arith)
