use Rattle.table.proofs.Descent.{greater_a, greater_b}
use native.Mathlib.Omega.{arith}
use Rattle.table.proofs.repetition.greater.Goals as goal

pub returns-then-a-b : goal.returns-then-a-b
returns-then-a-b c = search (greater_b, arith)

pub returns-else-a-b : goal.returns-else-a-b
returns-else-a-b c = search (greater_a, arith)
