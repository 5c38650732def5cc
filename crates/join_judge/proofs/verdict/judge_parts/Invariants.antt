use Rattle.join_judge.proofs.PartWays.{UpTo}
use Rattle.join_judge.proofs.verdict.judge_parts.Given as goal

abbrev pub invariant-loop-i : goal.invariant-loop-i
invariant-loop-i l = UpTo l.graph l.plans l.words l.shape l.end l.work l.i
