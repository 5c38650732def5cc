use Prim.Native.Nat.{◌*◌, ◌+◌, ◌-◌}
use lib.ListN.{take}
use Rattle.records.proofs.Groups.{Grouping}
use Rattle.records.proofs.value_ends.+group_end_value_end.Given as goal

abbrev pub decreases-group_end : goal.decreases-group_end
decreases-group_end l = 2 * l.t + 1

abbrev pub decreases-value_end : goal.decreases-value_end
decreases-value_end l = 2 * l.t

abbrev pub invariant-group_end-loop-i : goal.invariant-group_end-loop-i
invariant-group_end-loop-i l = Grouping (take l.known l.rec) l.t l.from l.count l.place (l.count - l.i)
