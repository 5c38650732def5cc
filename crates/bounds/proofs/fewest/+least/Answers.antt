-- `bounds::fewest::least` meets its contract, by recursion on a falling measure. Assumes nothing.
use native.Mathlib.Omega.{arith}
use borrow.Author.Rules.{rules}
use Rattle.table.proofs.Descent.{p_falls, q_falls}
use Rattle.bounds.proofs.RowLengths.{fewest_concatenation, fewest_conditioned, fewest_edge, fewest_high, fewest_low, fewest_repetition, fewest_union}
use Rattle.bounds.proofs.fewest.+least.Goals as goal

pub least-a-requires : goal.least-a-requires
least-a-requires t c = let f = p_falls c.row_at-r.ensures (search rules) {n = t} (search rules) (search rules) (search rules) in (f.0, (search rules, f.1))

pub least-b-requires : goal.least-b-requires
least-b-requires t c = let f = q_falls c.row_at-r.ensures (search rules) {n = t} (search rules) (search rules) (search rules) in (f.0, (search rules, f.1))

pub least-a-requires-in-6 : goal.least-a-requires-in-6
least-a-requires-in-6 t c = let f = p_falls c.row_at-r.ensures (search rules) {n = t} (search rules) (search rules) (search rules) in (f.0, (search rules, f.1))

pub least-b-requires-in-6 : goal.least-b-requires-in-6
least-b-requires-in-6 t c = let f = q_falls c.row_at-r.ensures (search rules) {n = t} (search rules) (search rules) (search rules) in (f.0, (search rules, f.1))

pub least-requires : goal.least-requires
least-requires t c = let f = p_falls c.row_at-r.ensures (search rules) {n = t} (search rules) (search rules) (search rules) in (f.0, (search rules, f.1))

pub least-a-requires-in-8 : goal.least-a-requires-in-8
least-a-requires-in-8 t c = let f = p_falls c.row_at-r.ensures (search rules) {n = t} (search rules) (search rules) (search rules) in (f.0, (search rules, f.1))

pub returns-in-5 : goal.returns-in-5
returns-in-5 t c = search (fewest_union, arith)

pub returns-in-6 : goal.returns-in-6
returns-in-6 t c = search (fewest_concatenation, arith)

pub returns-in-7 : goal.returns-in-7
returns-in-7 t c = search (fewest_conditioned, arith)

pub returns-in-8 : goal.returns-in-8
returns-in-8 t c = search (fewest_repetition, arith)

pub returns-in-2-to-4 : goal.returns-in-2-to-4
returns-in-2-to-4 t c = search (fewest_edge, arith)

pub returns-in_default : goal.returns-in_default
returns-in_default t c = search (fewest_low, arith)

pub returns-in_default-2 : goal.returns-in_default-2
returns-in_default-2 t c = search (fewest_high, arith)
