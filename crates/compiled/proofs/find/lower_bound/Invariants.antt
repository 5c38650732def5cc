use Prim.Native.Nat.{◌-◌}
use Rattle.compiled.proofs.Searching.{Narrowing}
use Rattle.compiled.proofs.find.lower_bound.Given as goal

abbrev pub invariant-loop-low : goal.invariant-loop-low
invariant-loop-low l = Narrowing l.graph l.at l.pair l.n l.low l.high

abbrev pub decreases-loop-low : goal.decreases-loop-low
decreases-loop-low l = l.high - l.low
