use Rattle.compiled.proofs.Finding.{found_here, found_other, found_past}
use native.Mathlib.Omega.{arith}
use Rattle.compiled.proofs.find.find.Goals as goal

pub returns-then-n-i : goal.returns-then-n-i
returns-then-n-i c = search (found_past, arith)

pub returns-then-w-pair : goal.returns-then-w-pair
returns-then-w-pair c = search (found_here, arith)

pub returns-else-w-pair : goal.returns-else-w-pair
returns-else-w-pair c = search (found_other, arith)
