-- `conditions::evaluate::condition` meets its contract. Assumes nothing.
use borrow.Author.Rules.{rules}
use native.Mathlib.Omega.{arith}
use Rattle.conditions.proofs.ConditionRows.{and_first, and_second, constant_slot, first_slot, lower_falls, lower_stands, not_row, or_first, or_second, second_slot}
use Rattle.conditions.proofs.Evaluation.{conjunction, conjunction_refuted, constant, disjunction, disjunction_granted, negation, no_condition, properties}
use Rattle.conditions.proofs.evaluate.+condition.Goals as goal

pub of-requires : goal.of-requires
of-requires t c = search (constant_slot, arith)

pub of-requires-in-17 : goal.of-requires-in-17
of-requires-in-17 t c = search (first_slot, arith)

pub of-requires-in-17-2 : goal.of-requires-in-17-2
of-requires-in-17-2 t c = search (second_slot, arith)

pub condition-right-requires : goal.condition-right-requires
condition-right-requires t c = search (and_second, or_second, lower_falls, lower_stands, rules)

pub condition-requires : goal.condition-requires
condition-requires t c = search (and_first, or_first, lower_falls, lower_stands, rules)

pub condition-right-requires-in-19 : goal.condition-right-requires-in-19
condition-right-requires-in-19 t c = search (and_second, or_second, lower_falls, lower_stands, rules)

pub condition-requires-in-19 : goal.condition-requires-in-19
condition-requires-in-19 t c = search (and_first, or_first, lower_falls, lower_stands, rules)

pub condition-requires-in-20 : goal.condition-requires-in-20
condition-requires-in-20 t c = search (not_row, lower_falls, lower_stands, rules)

pub returns-then-decides : goal.returns-then-decides
returns-then-decides t c = search (conjunction_refuted, arith)

pub returns-then-decides-2 : goal.returns-then-decides-2
returns-then-decides-2 t c = search (disjunction_granted, arith)

pub returns-in-16 : goal.returns-in-16
returns-in-16 t c = search (constant, arith)

pub returns-in-17 : goal.returns-in-17
returns-in-17 t c = search (properties, arith)

pub returns-else-decides : goal.returns-else-decides
returns-else-decides t c = search (conjunction, arith)

pub returns-else-decides-2 : goal.returns-else-decides-2
returns-else-decides-2 t c = search (disjunction, arith)

pub returns-in-20 : goal.returns-in-20
returns-in-20 t c = search (negation, arith)

pub returns-in_default : goal.returns-in_default
returns-in_default t c = search (no_condition, arith)
