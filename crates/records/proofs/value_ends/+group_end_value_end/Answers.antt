-- `records::value_ends::value_end` and `group_end` meet their contracts: the type falls, and a group has the type of what it holds. Assumes nothing.
use native.Mathlib.Omega.{arith}
use Rattle.records.proofs.Ends.{end_group, end_high, end_low, end_maybe, end_nothing, end_one, end_unknown}
use Rattle.records.proofs.Groups.{group_all, group_next, group_none, group_past}
use Rattle.records.proofs.value_ends.+group_end_value_end.Goals as goal

pub group_end-loop-i-init : goal.group_end-loop-i-init
group_end-loop-i-init t c = search (group_none, arith)

pub group_end-returns-then-known-place : goal.group_end-returns-then-known-place
group_end-returns-then-known-place t c = search (group_past, arith)

pub group_end-loop-i-preserved : goal.group_end-loop-i-preserved
group_end-loop-i-preserved t c = search (group_next, arith)

pub group_end-returns : goal.group_end-returns
group_end-returns t c = search (group_all, arith)

pub value_end-returns-then-known-place : goal.value_end-returns-then-known-place
value_end-returns-then-known-place t c = search (end_unknown, arith)

pub value_end-returns-then-word-eq-NOTHING : goal.value_end-returns-then-word-eq-NOTHING
value_end-returns-then-word-eq-NOTHING t c = search (end_nothing, arith)

pub value_end-returns-else-word-eq-NOTHING : goal.value_end-returns-else-word-eq-NOTHING
value_end-returns-else-word-eq-NOTHING t c = search (end_maybe, arith)

pub value_end-returns-in-4 : goal.value_end-returns-in-4
value_end-returns-in-4 t c = search (end_group, arith)

pub value_end-returns-in-1-to-2 : goal.value_end-returns-in-1-to-2
value_end-returns-in-1-to-2 t c = search (end_one, arith)

pub value_end-returns-in_default : goal.value_end-returns-in_default
value_end-returns-in_default t c = search (end_low, arith)

pub value_end-returns-in_default-2 : goal.value_end-returns-in_default-2
value_end-returns-in_default-2 t c = search (end_high, arith)
