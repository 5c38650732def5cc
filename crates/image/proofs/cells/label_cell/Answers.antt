-- `image::cells::label_cell` meets its contract. Assumes nothing.
use native.Mathlib.Omega.{arith}
use Rattle.image.proofs.RowFaults.{is_label_cell}
use Rattle.image.proofs.cells.label_cell.Goals as goal

pub returns : goal.returns
returns c = search (is_label_cell, arith)
