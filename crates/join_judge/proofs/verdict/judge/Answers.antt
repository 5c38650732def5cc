-- `join_judge::verdict::judge` meets its contract. Assumes nothing.
use native.Mathlib.Omega.{arith}
use borrow.Author.Rules.{rules}
use Rattle.join_judge.proofs.VerdictWays.{no_paths, paths_begun, too_long}
use Rattle.join_judge.proofs.verdict.judge.Goals as goal

pub returns-then-words-gt-WORK : goal.returns-then-words-gt-WORK
returns-then-words-gt-WORK c = search (too_long, arith)

pub returns-in-None : goal.returns-in-None
returns-in-None c = let f = c.in-None.ensures in search (no_paths, arith)

pub judge_values-requires : goal.judge_values-requires
judge_values-requires c = let f = c.in-Some.ensures in search (paths_begun, rules)
