-- `image::cells::node_cell` meets its contract. Assumes nothing.
use native.Mathlib.Omega.{arith}
use Rattle.image.proofs.RowFaults.{is_node_cell}
use Rattle.image.proofs.cells.node_cell.Goals as goal

pub returns : goal.returns
returns c = search (is_node_cell, arith)
