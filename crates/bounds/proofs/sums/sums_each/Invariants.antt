use Rattle.bits.specs.Sets.{set_of}
use Rattle.bits.specs.Members.{Walked}
use Rattle.bounds.proofs.SumWays.{Summed}
use Rattle.bounds.proofs.sums.sums_each.Given as goal

abbrev pub invariant-loop-k : goal.invariant-loop-k
invariant-loop-k l = Walked l.fn.few.w (λ n. Summed (set_of l.fn.few.w) (set_of l.many.w) (set_of l.r.w) n) l.k-iterator
