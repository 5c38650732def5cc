use Rattle.table.proofs.Descent.{p_falls, q_falls, ed_edge, ed_union_yes, ed_union_no, ed_both, ed_not_both, ed_conditioned, ed_repetition, ed_low, ed_high}
use native.Mathlib.Omega.{arith}
use borrow.Author.Rules.{rules}
use Rattle.table.proofs.repetition.+edgeless.Goals as goal

pub edgeless-requires : goal.edgeless-requires
edgeless-requires t c = p_falls c.row_at-r.ensures (search rules) (search rules) (search rules) (search rules)

pub returns-then-edgeless : goal.returns-then-edgeless
returns-then-edgeless t c = search (ed_union_yes, arith)

pub edgeless-requires-in-5 : goal.edgeless-requires-in-5
edgeless-requires-in-5 t c = q_falls c.row_at-r.ensures (search rules) (search rules) (search rules) (search rules)

pub edgeless-requires-in-6 : goal.edgeless-requires-in-6
edgeless-requires-in-6 t c = p_falls c.row_at-r.ensures (search rules) (search rules) (search rules) (search rules)

pub edgeless-requires-then-edgeless-2 : goal.edgeless-requires-then-edgeless-2
edgeless-requires-then-edgeless-2 t c = q_falls c.row_at-r.ensures (search rules) (search rules) (search rules) (search rules)

pub returns-then-edgeless-2 : goal.returns-then-edgeless-2
returns-then-edgeless-2 t c = search (ed_both, arith)

pub edgeless-requires-in-7 : goal.edgeless-requires-in-7
edgeless-requires-in-7 t c = p_falls c.row_at-r.ensures (search rules) (search rules) (search rules) (search rules)

pub returns-else-edgeless : goal.returns-else-edgeless
returns-else-edgeless t c = search (ed_union_no, arith)

pub returns-else-edgeless-2 : goal.returns-else-edgeless-2
returns-else-edgeless-2 t c = search (ed_not_both, arith)

pub returns-in-7 : goal.returns-in-7
returns-in-7 t c = search (ed_conditioned, arith)

pub returns-in-8 : goal.returns-in-8
returns-in-8 t c = search (ed_repetition, arith)

pub returns-in-2-to-4 : goal.returns-in-2-to-4
returns-in-2-to-4 t c = search (ed_edge, arith)

pub returns-in_default : goal.returns-in_default
returns-in_default t c = search (ed_low, arith)

pub returns-in_default-2 : goal.returns-in_default-2
returns-in_default-2 t c = search (ed_high, arith)
