use Rattle.query.proofs.Ranges.{in_range, too_low, too_high}
use native.Mathlib.Omega.{arith}
use Rattle.query.proofs.restrictors.is_restrictor.Goals as goal

pub returns-in-1-to-4 : goal.returns-in-1-to-4
returns-in-1-to-4 c = search (in_range, arith)

pub returns-in_default : goal.returns-in_default
returns-in_default c = search (too_low, arith)

pub returns-in_default-2 : goal.returns-in_default-2
returns-in_default-2 c = search (too_high, arith)
