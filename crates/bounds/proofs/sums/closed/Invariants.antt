use Prim.Native.Nat.{◌-◌}
use Rattle.bits.specs.Sets.{set_of}
use Rattle.bounds.proofs.SumWays.{Closing}
use Rattle.bounds.proofs.sums.closed.Given as goal

abbrev pub invariant-loop-k : goal.invariant-loop-k
invariant-loop-k l = Closing (set_of l.initial.r.w) (set_of l.steps.w) (set_of l.r.w) l.k

abbrev pub decreases-loop-k : goal.decreases-loop-k
decreases-loop-k l = 256 - l.k
