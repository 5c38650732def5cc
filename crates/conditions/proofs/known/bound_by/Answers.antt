-- `conditions::known::bound_by` meets its contract. Assumes nothing.
use Rattle.conditions.proofs.KnownWords.{binds_all, binds_more, binds_none}
use native.Mathlib.Omega.{arith}
use Rattle.conditions.proofs.known.bound_by.Goals as goal

pub loop-x-init : goal.loop-x-init
loop-x-init c = search (binds_none, arith)

pub loop-x-preserved : goal.loop-x-preserved
loop-x-preserved c = search (binds_more, arith)

pub returns : goal.returns
returns c = search (binds_all, arith)
