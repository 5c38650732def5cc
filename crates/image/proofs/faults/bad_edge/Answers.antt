-- `image::faults::bad_edge` meets its contract. Assumes nothing.
use native.Mathlib.Omega.{arith}
use Rattle.image.proofs.RowFaults.{first_end_out, second_end_out, directed, no_direction, undirected}
use Rattle.image.proofs.faults.bad_edge.Goals as goal

pub returns-then-s-first : goal.returns-then-s-first
returns-then-s-first c = search (first_end_out, arith)

pub returns-then-s-second : goal.returns-then-s-second
returns-then-s-second c = search (second_end_out, arith)

pub returns-then-direction-eq1 : goal.returns-then-direction-eq1
returns-then-direction-eq1 c = search (directed, arith)

pub returns-then-direction-ne0 : goal.returns-then-direction-ne0
returns-then-direction-ne0 c = search (no_direction, arith)

pub returns : goal.returns
returns c = search (undirected, arith)
