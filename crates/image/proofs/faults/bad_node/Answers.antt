-- `image::faults::bad_node` meets its contract. Assumes nothing.
use native.Mathlib.Omega.{arith}
use Rattle.image.proofs.RowFaults.{node_first, node_later}
use Rattle.image.proofs.faults.bad_node.Goals as goal

pub returns-then-i-eq0 : goal.returns-then-i-eq0
returns-then-i-eq0 c = search (node_first, arith)

pub returns : goal.returns
returns c = search (node_later, arith)
