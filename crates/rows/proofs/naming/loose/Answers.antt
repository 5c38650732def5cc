use Rattle.rows.proofs.Places.{loose_last, loose_named}
use native.Mathlib.Omega.{arith}
use Rattle.rows.proofs.naming.loose.Goals as goal

pub returns-then-i-pattern : goal.returns-then-i-pattern
returns-then-i-pattern c = search (loose_last, arith)

pub returns : goal.returns
returns c = search (loose_named, arith)
