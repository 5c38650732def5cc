-- `image::lowest::lowest_bad` meets its contract. Assumes nothing.
use native.Mathlib.Omega.{arith}
use Rattle.image.proofs.Scanning.{scan_none, scan_more, scan_hit, scan_end}
use Rattle.image.proofs.lowest.lowest_bad.Goals as goal

pub loop-row-init : goal.loop-row-init
loop-row-init c = search (scan_none, arith)

pub returns-then-bad_row : goal.returns-then-bad_row
returns-then-bad_row c = search (scan_hit, arith)

pub loop-row-preserved : goal.loop-row-preserved
loop-row-preserved c = search (scan_more, arith)

pub returns : goal.returns
returns c = search (scan_end, arith)
