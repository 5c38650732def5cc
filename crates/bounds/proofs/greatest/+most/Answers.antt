-- `bounds::greatest::most` meets its contract, by recursion on a falling measure. Assumes nothing.
use native.Mathlib.Omega.{arith}
use borrow.Author.Rules.{rules}
use Rattle.table.proofs.Descent.{p_falls, q_falls}
use Rattle.bounds.proofs.RowLengths.{most_concatenation, most_conditioned, most_edge, most_high, most_low, most_repetition, most_union}
use Rattle.bounds.proofs.greatest.+most.Goals as goal

pub most-a-requires : goal.most-a-requires
most-a-requires t c = let f = p_falls c.row_at-r.ensures (search rules) {n = t} (search rules) (search rules) (search rules) in (f.0, (search rules, f.1))

pub most-b-requires : goal.most-b-requires
most-b-requires t c = let f = q_falls c.row_at-r.ensures (search rules) {n = t} (search rules) (search rules) (search rules) in (f.0, (search rules, f.1))

pub most-a-requires-in-6 : goal.most-a-requires-in-6
most-a-requires-in-6 t c = let f = p_falls c.row_at-r.ensures (search rules) {n = t} (search rules) (search rules) (search rules) in (f.0, (search rules, f.1))

pub most-b-requires-in-6 : goal.most-b-requires-in-6
most-b-requires-in-6 t c = let f = q_falls c.row_at-r.ensures (search rules) {n = t} (search rules) (search rules) (search rules) in (f.0, (search rules, f.1))

pub most-requires : goal.most-requires
most-requires t c = let f = p_falls c.row_at-r.ensures (search rules) {n = t} (search rules) (search rules) (search rules) in (f.0, (search rules, f.1))

pub most-a-requires-in-8 : goal.most-a-requires-in-8
most-a-requires-in-8 t c = let f = p_falls c.row_at-r.ensures (search rules) {n = t} (search rules) (search rules) (search rules) in (f.0, (search rules, f.1))

pub returns-in-5 : goal.returns-in-5
returns-in-5 t c = search (most_union, arith)

pub returns-in-6 : goal.returns-in-6
returns-in-6 t c = search (most_concatenation, arith)

pub returns-in-7 : goal.returns-in-7
returns-in-7 t c = search (most_conditioned, arith)

pub returns-in-8 : goal.returns-in-8
returns-in-8 t c = search (most_repetition, arith)

pub returns-in-2-to-4 : goal.returns-in-2-to-4
returns-in-2-to-4 t c = search (most_edge, arith)

pub returns-in_default : goal.returns-in_default
returns-in_default t c = search (most_low, arith)

pub returns-in_default-2 : goal.returns-in_default-2
returns-in_default-2 t c = search (most_high, arith)
