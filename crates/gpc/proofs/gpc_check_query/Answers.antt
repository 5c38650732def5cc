-- `gpc::gpc_check_query` meets its contract. Assumes nothing.
use native.Mathlib.Omega.{arith}
use Rattle.gpc.proofs.Ways.{no_check, checked, wide_enough}
use Rattle.gpc.proofs.gpc_check_query.Goals as goal

pub returns-then-is_short : goal.returns-then-is_short
returns-then-is_short c = search (no_check, arith)

pub report_outcome-requires : goal.report_outcome-requires
report_outcome-requires c = search (wide_enough, arith)

pub returns : goal.returns
returns c = search (checked, arith)
