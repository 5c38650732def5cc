-- `join_judge::verdict::judge_part` meets its contract. Assumes nothing.
use native.Mathlib.Omega.{arith}
use borrow.Author.Rules.{rules}
use Rattle.join_judge.proofs.PartWays.{part_judged, part_ready, path_before, path_there, paths_inside, plan_ready, some_valued}
use Rattle.join_judge.proofs.verdict.judge_part.Goals as goal

pub path_at-requires : goal.path_at-requires
path_at-requires c = search (path_there, rules)

pub write_own-n-requires : goal.write_own-n-requires
write_own-n-requires c = search (plan_ready, some_valued, path_before, paths_inside, rules)

pub invariant_of-judge : goal.invariant_of-judge
invariant_of-judge c = search (part_ready, rules)

pub returns : goal.returns
returns c = search (part_judged, arith)
