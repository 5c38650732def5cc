-- `image::lowest::bad_row` meets its contract. Assumes nothing.
use native.Mathlib.Omega.{arith}
use Rattle.image.proofs.RowFaults.{bad_row_of}
use Rattle.image.proofs.lowest.bad_row.Goals as goal

pub returns-in-Nodes : goal.returns-in-Nodes
returns-in-Nodes c = search (bad_row_of, arith)

pub returns-in-Edges : goal.returns-in-Edges
returns-in-Edges c = search (bad_row_of, arith)

pub returns-in-Labels : goal.returns-in-Labels
returns-in-Labels c = search (bad_row_of, arith)

pub returns-in-Properties : goal.returns-in-Properties
returns-in-Properties c = search (bad_row_of, arith)
