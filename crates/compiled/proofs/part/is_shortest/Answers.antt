use Rattle.compiled.proofs.Parts.{every_answer, shortest_other}
use native.Mathlib.Omega.{arith}
use Rattle.compiled.proofs.part.is_shortest.Goals as goal

pub returns-in-1 : goal.returns-in-1
returns-in-1 c = search (every_answer, arith)

pub returns-in_default : goal.returns-in_default
returns-in_default c = search (shortest_other, arith)

pub returns-in_default-2 : goal.returns-in_default-2
returns-in_default-2 c = search (shortest_other, arith)
