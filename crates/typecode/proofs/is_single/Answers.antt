use Rattle.typecode.proofs.Codes.{single_node, single_edge}
use native.Mathlib.Omega.{arith}
use Rattle.typecode.proofs.is_single.Goals as goal

pub returns-then-a-eq-NODE : goal.returns-then-a-eq-NODE
returns-then-a-eq-NODE c = search (single_node, arith)

pub returns-else-a-eq-NODE : goal.returns-else-a-eq-NODE
returns-else-a-eq-NODE c = search (single_edge, arith)
