use Rattle.table.proofs.Plain.{type_node, type_edge, type_union, type_joined, type_conditioned, type_repeated, type_low, type_high}
use Rattle.table.proofs.Descent.{p_types, q_types}
use borrow.Author.Rules.{rules}
use native.Mathlib.Omega.{arith}
use Rattle.table.proofs.typing.+type_of.Goals as goal

pub type_of-a-requires : goal.type_of-a-requires
type_of-a-requires t c = p_types c.row_at-r.ensures (search rules) (search rules) (search rules) (search rules)

pub type_of-b-requires : goal.type_of-b-requires
type_of-b-requires t c = q_types c.row_at-r.ensures (search rules) (search rules) (search rules) (search rules)

pub type_of-a-requires-in-6 : goal.type_of-a-requires-in-6
type_of-a-requires-in-6 t c = p_types c.row_at-r.ensures (search rules) (search rules) (search rules) (search rules)

pub type_of-b-requires-in-6 : goal.type_of-b-requires-in-6
type_of-b-requires-in-6 t c = q_types c.row_at-r.ensures (search rules) (search rules) (search rules) (search rules)

pub type_of-requires : goal.type_of-requires
type_of-requires t c = p_types c.row_at-r.ensures (search rules) (search rules) (search rules) (search rules)

pub type_of-requires-in-8 : goal.type_of-requires-in-8
type_of-requires-in-8 t c = p_types c.row_at-r.ensures (search rules) (search rules) (search rules) (search rules)

pub returns-in-1 : goal.returns-in-1
returns-in-1 t c = search (type_node, arith)

pub returns-in-5 : goal.returns-in-5
returns-in-5 t c = search (type_union, arith)

pub returns-in-6 : goal.returns-in-6
returns-in-6 t c = search (type_joined, arith)

pub returns-in-7 : goal.returns-in-7
returns-in-7 t c = search (type_conditioned, arith)

pub returns-in-8 : goal.returns-in-8
returns-in-8 t c = search (type_repeated, arith)

pub returns-in-2-to-4 : goal.returns-in-2-to-4
returns-in-2-to-4 t c = search (type_edge, arith)

pub returns-in_default : goal.returns-in_default
returns-in_default t c = search (type_low, arith)

pub returns-in_default-2 : goal.returns-in_default-2
returns-in_default-2 t c = search (type_high, arith)
