use Rattle.table.proofs.Scanning.{scan_none, scan_more, scan_hit, scan_end}
use native.Mathlib.Omega.{arith}
use Rattle.table.proofs.lowest.lowest_faulty.Goals as goal

pub loop-i-init : goal.loop-i-init
loop-i-init c = search (scan_none, arith)

pub returns-then-is_faulty : goal.returns-then-is_faulty
returns-then-is_faulty c = search (scan_hit, arith)

pub loop-i-preserved : goal.loop-i-preserved
loop-i-preserved c = search (scan_more, arith)

pub returns : goal.returns
returns c = search (scan_end, arith)
