use Rattle.rows.proofs.Places.{two_patterns, two_conditions, one_pattern, one_condition, none_low, none_mid, none_high}
use native.Mathlib.Omega.{arith}
use Rattle.rows.proofs.naming.places.Goals as goal

pub returns-in-8 : goal.returns-in-8
returns-in-8 c = search (one_pattern, arith)

pub returns-in-20 : goal.returns-in-20
returns-in-20 c = search (one_condition, arith)

pub returns-in-5-to-7 : goal.returns-in-5-to-7
returns-in-5-to-7 c = search (two_patterns, arith)

pub returns-in-18-to-19 : goal.returns-in-18-to-19
returns-in-18-to-19 c = search (two_conditions, arith)

pub returns-in_default : goal.returns-in_default
returns-in_default c = search (none_low, arith)

pub returns-in_default-2 : goal.returns-in_default-2
returns-in_default-2 c = search (none_mid, arith)

pub returns-in_default-3 : goal.returns-in_default-3
returns-in_default-3 c = search (none_high, arith)
