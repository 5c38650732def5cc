use Rattle.calls.proofs.CallWays.{call_laid_out, told_alone}
use native.Mathlib.Omega.{arith}
use borrow.Author.Rules.{rules}
use Rattle.calls.proofs.judging.judge_on.Goals as goal

pub is_alone-requires : goal.is_alone-requires
is_alone-requires c = search (call_laid_out, arith)

pub judge_alone-requires : goal.judge_alone-requires
judge_alone-requires c = (search rules, search (told_alone, arith), search rules)
