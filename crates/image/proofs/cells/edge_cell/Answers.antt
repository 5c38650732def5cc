-- `image::cells::edge_cell` meets its contract. Assumes nothing.
use native.Mathlib.Omega.{arith}
use Rattle.image.proofs.RowFaults.{is_edge_cell}
use Rattle.image.proofs.cells.edge_cell.Goals as goal

pub returns : goal.returns
returns c = search (is_edge_cell, arith)
