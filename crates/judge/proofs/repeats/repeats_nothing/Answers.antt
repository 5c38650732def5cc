-- `judge::repeats_nothing` meets its contract. The loop's invariant: the masks are those of the first i steps, which repeat nothing. Assumes nothing.
use native.Mathlib.Omega.{arith}
use Rattle.judge.proofs.RepeatWays.{unrepeated_all, unrepeated_hit, unrepeated_more, unrepeated_none}
use Rattle.judge.proofs.repeats.repeats_nothing.Goals as goal

pub loop-i-init : goal.loop-i-init
loop-i-init c = search (unrepeated_none, arith)

pub loop-i-preserved : goal.loop-i-preserved
loop-i-preserved c = search (unrepeated_more, arith)

pub returns-else-allows : goal.returns-else-allows
returns-else-allows c = search (unrepeated_hit, arith)

pub returns : goal.returns
returns c = search (unrepeated_all, arith)
