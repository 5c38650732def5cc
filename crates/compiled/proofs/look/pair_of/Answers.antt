use Rattle.compiled.proofs.Reading.{edge_pair, node_pair}
use native.Mathlib.Omega.{arith}
use Rattle.compiled.proofs.look.pair_of.Goals as goal

pub returns-in-Node : goal.returns-in-Node
returns-in-Node c = search (node_pair, arith)

pub returns-in-Edge : goal.returns-in-Edge
returns-in-Edge c = search (edge_pair, arith)
