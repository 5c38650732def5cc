use Rattle.judge.proofs.NodeWays.{NodesPassed}
use Rattle.judge.proofs.nodes.nodes_within.Given as goal

abbrev pub invariant-loop-i : goal.invariant-loop-i
invariant-loop-i l = NodesPassed l.rec l.last l.count l.i
