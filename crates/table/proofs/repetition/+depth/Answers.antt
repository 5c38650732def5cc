use Rattle.table.proofs.Descent.{p_falls, q_falls, deep_two, deep_conditioned, deep_repetition, deep_low, deep_high}
use borrow.Author.Rules.{rules}
use native.Mathlib.Omega.{arith}
use Rattle.table.proofs.repetition.+depth.Goals as goal

pub depth-requires : goal.depth-requires
depth-requires t c = p_falls c.row_at-r.ensures (search rules) (search rules) (search rules) (search rules)

pub depth-requires-in-8 : goal.depth-requires-in-8
depth-requires-in-8 t c = p_falls c.row_at-r.ensures (search rules) (search rules) (search rules) (search rules)

pub depth-a-requires : goal.depth-a-requires
depth-a-requires t c = p_falls c.row_at-r.ensures (search rules) (search rules) (search rules) (search rules)

pub depth-b-requires : goal.depth-b-requires
depth-b-requires t c = q_falls c.row_at-r.ensures (search rules) (search rules) (search rules) (search rules)

pub returns-in-7 : goal.returns-in-7
returns-in-7 t c = search (deep_conditioned, arith)

pub returns-in-8 : goal.returns-in-8
returns-in-8 t c = search (deep_repetition, arith)

pub returns-in-5-to-6 : goal.returns-in-5-to-6
returns-in-5-to-6 t c = search (deep_two, arith)

pub returns-in_default : goal.returns-in_default
returns-in_default t c = search (deep_low, arith)

pub returns-in_default-2 : goal.returns-in_default-2
returns-in_default-2 t c = search (deep_high, arith)
