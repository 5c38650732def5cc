use Rattle.query.proofs.TypeWays.{agreed_none, agreed_more, agreed_not, agreed_all}
use native.Mathlib.Omega.{arith}
use Rattle.query.proofs.typing.untyped.Goals as goal

pub loop-x-init : goal.loop-x-init
loop-x-init c = search (agreed_none, arith)

pub returns-then-type_code-eq-CLASH : goal.returns-then-type_code-eq-CLASH
returns-then-type_code-eq-CLASH c = search (agreed_not, arith)

pub loop-x-preserved : goal.loop-x-preserved
loop-x-preserved c = search (agreed_more, arith)

pub returns : goal.returns
returns c = search (agreed_all, arith)
