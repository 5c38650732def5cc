-- `judge::nodes_within` meets its contract. The loop's invariant: the nodes before position i are below the count. Assumes nothing.
use native.Mathlib.Omega.{arith}
use Rattle.judge.proofs.NodeWays.{passed_all, passed_hit, passed_more, passed_none}
use Rattle.judge.proofs.nodes.nodes_within.Goals as goal

pub loop-i-init : goal.loop-i-init
loop-i-init c = search (passed_none, arith)

pub returns-then-count-word : goal.returns-then-count-word
returns-then-count-word c = search (passed_hit, arith)

pub loop-i-preserved : goal.loop-i-preserved
loop-i-preserved c = search (passed_more, arith)

pub returns : goal.returns
returns c = search (passed_all, arith)
