-- `image::faults::bad_label` meets its contract. Assumes nothing.
use native.Mathlib.Omega.{arith}
use Rattle.image.proofs.RowFaults.{label_out, no_label, label_first, label_later}
use Rattle.image.proofs.faults.bad_label.Goals as goal

pub returns-then-s-element : goal.returns-then-s-element
returns-then-s-element c = search (label_out, arith)

pub returns-then-label-eq0 : goal.returns-then-label-eq0
returns-then-label-eq0 c = search (no_label, arith)

pub returns-then-i-eq0 : goal.returns-then-i-eq0
returns-then-i-eq0 c = search (label_first, arith)

pub returns : goal.returns
returns c = search (label_later, arith)
