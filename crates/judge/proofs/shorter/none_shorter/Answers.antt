-- `judge::none_shorter` meets its contract. The loop's invariant: none with fewer than m edges. Assumes nothing.
use mathlib.Core.Path.{◌≡◌, refl}
use Rattle.bits.proofs.Walks.{walked_end, walked_first, walked_here, walked_more}
use Rattle.bounds.specs.Lengths.{OnlyLengths}
use Rattle.judge.proofs.ShorterWays.{none_all, none_first, none_hit, none_more}
use native.Mathlib.Omega.{arith}
use borrow.Author.Rules.{rules}
use Rattle.judge.proofs.shorter.none_shorter.Goals as goal

pub loop-m-init : goal.loop-m-init
loop-m-init c =
    let e : c.into_iter-m-iterator.result.set.w ≡ c.lengths_of-lengths.result.w = search rules in
    let o : OnlyLengths c.args.of.plan.now c.into_iter-m-iterator.result.set.w = rw e c.lengths_of-lengths.ensures in
    (walked_first refl (search rules) (λ k l. none_first _ _ _ _ _ _ k c.args.of.ready.sound o l), search rules, search rules)

pub returns-in-None : goal.returns-in-None
returns-in-None c = let w = walked_end c.loop-m.invariant.0 c.in-None.ensures.steps in search (none_all, arith)

pub returns-then-n-m : goal.returns-then-n-m
returns-then-n-m c = let w = walked_here c.loop-m.invariant.0 c.in-Some.ensures.steps in search (none_all, arith)

pub returns-then-joins : goal.returns-then-joins
returns-then-joins c = search (none_hit, arith)

pub loop-m-preserved : goal.loop-m-preserved
loop-m-preserved c =
    let e : c.into_iter-m-iterator.result.set.w ≡ c.lengths_of-lengths.result.w = search rules in
    let o : OnlyLengths c.args.of.plan.now c.into_iter-m-iterator.result.set.w = rw e c.lengths_of-lengths.ensures in
    (walked_more c.loop-m.invariant.0 c.in-Some.ensures.steps (λ p k l. none_more _ _ _ _ _ _ _ k c.joins.result c.args.of.ready.sound o p c.joins.ensures (search rules) l), search rules, search rules)
