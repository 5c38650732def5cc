-- `join_judge::verdict::judge_parts` meets its contract. Assumes nothing.
use native.Mathlib.Omega.{arith}
use Rattle.join_judge.proofs.PartWays.{parts_all, parts_more, parts_none, parts_out}
use Rattle.join_judge.proofs.verdict.judge_parts.Goals as goal

pub loop-i-init : goal.loop-i-init
loop-i-init c = search (parts_none, arith)

pub returns-then-not-judge_part : goal.returns-then-not-judge_part
returns-then-not-judge_part c = search (parts_out, arith)

pub loop-i-preserved : goal.loop-i-preserved
loop-i-preserved c = search (parts_more, arith)

pub returns : goal.returns
returns c = search (parts_all, arith)
