use native.Mathlib.Omega.{arith}
use Rattle.gpc.proofs.Ways.{wide_enough}
use Rattle.gpc.proofs.Answering.{begun_granted, begun_refused, begun_short}
use Rattle.gpc.proofs.begin.Goals as goal

pub returns-then-is_short : goal.returns-then-is_short
returns-then-is_short c = search (begun_short, arith)

pub report_outcome-requires : goal.report_outcome-requires
report_outcome-requires c = search (wide_enough, arith)

pub returns-then-is_err : goal.returns-then-is_err
returns-then-is_err c = search (begun_refused, arith)

pub returns : goal.returns
returns c = search (begun_granted, arith)
