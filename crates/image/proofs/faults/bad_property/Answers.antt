-- `image::faults::bad_property` meets its contract. Assumes nothing.
use native.Mathlib.Omega.{arith}
use Rattle.image.proofs.RowFaults.{property_out, property_first, property_later}
use Rattle.image.proofs.faults.bad_property.Goals as goal

pub returns-then-s-element : goal.returns-then-s-element
returns-then-s-element c = search (property_out, arith)

pub returns-then-i-eq0 : goal.returns-then-i-eq0
returns-then-i-eq0 c = search (property_first, arith)

pub returns : goal.returns
returns c = search (property_later, arith)
