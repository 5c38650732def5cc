use Rattle.calls.proofs.CompileWays.{alone_by_name, alone_not}
use native.Mathlib.Omega.{arith}
use Rattle.calls.proofs.compiling.is_alone.Goals as goal

pub returns-then-parts-eq1 : goal.returns-then-parts-eq1
returns-then-parts-eq1 c = search (alone_by_name, arith)

pub returns-else-parts-eq1 : goal.returns-else-parts-eq1
returns-else-parts-eq1 c = search (alone_not, arith)
