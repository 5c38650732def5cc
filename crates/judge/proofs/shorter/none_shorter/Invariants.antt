use mathlib.Core.Path.{◌≡◌}
use lib.ListN.{length}
use Rattle.bits.specs.Members.{Walked}
use Rattle.judge.proofs.ShorterWays.{NoneYet}
use Rattle.judge.proofs.shorter.none_shorter.Given as goal

abbrev pub invariant-loop-m : goal.invariant-loop-m
invariant-loop-m l = Walked l.initial.m-iterator.set.w (λ m. NoneYet l.of.graph.now l.of.plan.now l.n l.u l.v m) l.m-iterator
    × (length l.fit ≡ length l.initial.fit) × (length l.work ≡ length l.initial.work)
