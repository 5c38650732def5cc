-- `printing::record_ends::group_end` and `printing::record_ends::value_end` meet their contracts. Assumes nothing.
use Rattle.std.proofs.Common.{arith}
use Rattle.printing.proofs.Ends.{end_group, end_maybe, end_none, end_nothing, end_one, factors_all, factors_more, factors_none, factors_past}
use Rattle.printing.proofs.record_ends.+group_end_value_end.Goals as goal

pub group_end-loop-factor-init : goal.group_end-loop-factor-init
group_end-loop-factor-init t c = search (factors_all, arith)

pub group_end-returns-then-words-end : goal.group_end-returns-then-words-end
group_end-returns-then-words-end t c = search (factors_past, arith)

pub group_end-loop-factor-preserved : goal.group_end-loop-factor-preserved
group_end-loop-factor-preserved t c = search (factors_more, arith)

pub group_end-returns : goal.group_end-returns
group_end-returns t c = search (factors_none, arith)

pub value_end-returns-then-left-eq0 : goal.value_end-returns-then-left-eq0
value_end-returns-then-left-eq0 t c = search (end_none, arith)

pub value_end-returns-then-word_at-eq-NOTHING : goal.value_end-returns-then-word_at-eq-NOTHING
value_end-returns-then-word_at-eq-NOTHING t c = search (end_nothing, arith)

pub value_end-returns-else-word_at-eq-NOTHING : goal.value_end-returns-else-word_at-eq-NOTHING
value_end-returns-else-word_at-eq-NOTHING t c = search (end_maybe, arith)

pub value_end-returns-in-4 : goal.value_end-returns-in-4
value_end-returns-in-4 t c = search (end_group, arith)

pub value_end-returns-in_default : goal.value_end-returns-in_default
value_end-returns-in_default t c = search (end_one, arith)
