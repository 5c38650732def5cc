use native.Mathlib.Omega.{arith}
use Rattle.gpc.proofs.Answering.{judge_answered, judge_stopped, on_granted, on_roomy, on_wide}
use Rattle.gpc.proofs.gpc_judge_record.Goals as goal

pub returns-in-Err : goal.returns-in-Err
returns-in-Err c = search (judge_stopped, arith)

pub report_verdict-requires : goal.report_verdict-requires
report_verdict-requires c = (search (on_granted, arith), search (on_roomy, arith), search (on_wide, arith))

pub returns : goal.returns
returns c = search (judge_answered, arith)
