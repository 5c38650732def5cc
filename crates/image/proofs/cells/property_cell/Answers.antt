-- `image::cells::property_cell` meets its contract. Assumes nothing.
use native.Mathlib.Omega.{arith}
use Rattle.image.proofs.RowFaults.{is_property_cell}
use Rattle.image.proofs.cells.property_cell.Goals as goal

pub returns : goal.returns
returns c = search (is_property_cell, arith)
