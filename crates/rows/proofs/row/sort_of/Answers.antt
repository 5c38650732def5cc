use Rattle.rows.proofs.Sorts.{sort_pattern, sort_condition, sort_low, sort_mid, sort_high}
use native.Mathlib.Omega.{arith}
use Rattle.rows.proofs.row.sort_of.Goals as goal

pub returns-in-1-to-8 : goal.returns-in-1-to-8
returns-in-1-to-8 c = search (sort_pattern, arith)

pub returns-in-16-to-20 : goal.returns-in-16-to-20
returns-in-16-to-20 c = search (sort_condition, arith)

pub returns-in_default : goal.returns-in_default
returns-in_default c = search (sort_low, arith)

pub returns-in_default-2 : goal.returns-in_default-2
returns-in_default-2 c = search (sort_mid, arith)

pub returns-in_default-3 : goal.returns-in_default-3
returns-in_default-3 c = search (sort_high, arith)
