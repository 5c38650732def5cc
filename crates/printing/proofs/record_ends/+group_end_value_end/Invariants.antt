use Rattle.std.proofs.Common.{◌+◌, ◌-◌, ◌*◌}
use Rattle.printing.proofs.Ends.{Factors}
use Rattle.printing.proofs.record_ends.+group_end_value_end.Given as goal

abbrev pub decreases-group_end : goal.decreases-group_end
decreases-group_end l = 2 * l.left + 1

abbrev pub decreases-value_end : goal.decreases-value_end
decreases-value_end l = 2 * l.left

abbrev pub invariant-group_end-loop-factor : goal.invariant-group_end-loop-factor
invariant-group_end-loop-factor l = Factors l.left l.types l.kind l.words l.at (l.factors - l._factor) l.end
