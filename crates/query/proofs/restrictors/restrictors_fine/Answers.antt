use Rattle.query.proofs.Behind.{behind_none}
use Rattle.query.proofs.PartWays.{restrictor_bad, restrictor_fine, restrictors_all}
use native.Mathlib.Omega.{arith}
use Rattle.query.proofs.restrictors.restrictors_fine.Goals as goal

pub loop-i-init : goal.loop-i-init
loop-i-init c = search (behind_none, arith)

pub returns-then-not-is_restrictor : goal.returns-then-not-is_restrictor
returns-then-not-is_restrictor c = search (restrictor_bad, arith)

pub loop-i-preserved : goal.loop-i-preserved
loop-i-preserved c = search (restrictor_fine, arith)

pub returns : goal.returns
returns c = search (restrictors_all, arith)
