use Rattle.rows.proofs.Places.{once_yes, once_no}
use native.Mathlib.Omega.{arith}
use Rattle.rows.proofs.naming.once.Goals as goal

pub returns-then-i-p : goal.returns-then-i-p
returns-then-i-p c = search (once_yes, arith)

pub returns-else-i-p : goal.returns-else-i-p
returns-else-i-p c = search (once_no, arith)
