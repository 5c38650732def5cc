-- `gpc::gpc_read_image` meets its contract. Assumes nothing.
use native.Mathlib.Omega.{arith}
use Rattle.gpc.proofs.Ways.{no_report, reported, wide_enough}
use Rattle.gpc.proofs.gpc_read_image.Goals as goal

pub returns-then-is_short : goal.returns-then-is_short
returns-then-is_short c = search (no_report, arith)

pub report_outcome-requires : goal.report_outcome-requires
report_outcome-requires c = search (wide_enough, arith)

pub returns : goal.returns
returns c = search (reported, arith)
