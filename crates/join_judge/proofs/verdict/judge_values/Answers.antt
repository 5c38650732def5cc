-- `join_judge::verdict::judge_values` meets its contract. Assumes nothing.
use native.Mathlib.Omega.{arith}
use borrow.Author.Rules.{rules}
use Rattle.join_judge.proofs.VerdictWays.{begun_inside, no_values, other_names, parts_decide, some_laid}
use Rattle.join_judge.proofs.verdict.judge_values.Goals as goal

pub values_end-to-requires : goal.values_end-to-requires
values_end-to-requires c = search (begun_inside, rules)

pub returns-then-words-to : goal.returns-then-words-to
returns-then-words-to c = search (no_values, arith)

pub are_names-requires : goal.are_names-requires
are_names-requires c = search (begun_inside, rules)

pub judge_parts-requires : goal.judge_parts-requires
judge_parts-requires c = search (some_laid, rules)

pub returns-then-not-are_names : goal.returns-then-not-are_names
returns-then-not-are_names c = search (other_names, arith)

pub returns : goal.returns
returns c = search (parts_decide, arith)
