use Rattle.table.proofs.Plain.{seeking_none, seeking_more, seeking_found, seeking_all}
use native.Mathlib.Omega.{arith}
use Rattle.table.proofs.typing.clashes.Goals as goal

pub loop-x-init : goal.loop-x-init
loop-x-init c = search (seeking_none, arith)

pub returns-then-type_of-eq-CLASH : goal.returns-then-type_of-eq-CLASH
returns-then-type_of-eq-CLASH c = search (seeking_found, arith)

pub loop-x-preserved : goal.loop-x-preserved
loop-x-preserved c = search (seeking_more, arith)

pub returns : goal.returns
returns c = search (seeking_all, arith)
