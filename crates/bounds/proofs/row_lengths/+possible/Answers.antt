-- `bounds::row_lengths::possible` meets its contract, by recursion on a falling measure. Assumes nothing.
use Rattle.bounds.proofs.PossibleWays.{possible_concatenation, possible_conditioned, possible_edge, possible_high, possible_low, possible_repetition, possible_union}
use Rattle.table.proofs.Descent.{p_falls, q_falls}
use native.Mathlib.Omega.{arith}
use borrow.Author.Rules.{rules}
use Rattle.bounds.proofs.row_lengths.+possible.Goals as goal
use Rattle.bounds.proofs.row_lengths.+possible.Goals.{in_default-via-then-kind-lt2, in_default-via-else-kind-lt2+else-kind-lt5}

pub possible-a-requires : goal.possible-a-requires
possible-a-requires t c = let f = p_falls c.row_at-r.ensures (search rules) {n = t} (search rules) (search rules) (search rules) in (f.0, (search rules, f.1))

pub possible-b-requires : goal.possible-b-requires
possible-b-requires t c = let f = q_falls c.row_at-r.ensures (search rules) {n = t} (search rules) (search rules) (search rules) in (f.0, (search rules, f.1))

pub possible-a-requires-in-6 : goal.possible-a-requires-in-6
possible-a-requires-in-6 t c = let f = p_falls c.row_at-r.ensures (search rules) {n = t} (search rules) (search rules) (search rules) in (f.0, (search rules, f.1))

pub possible-b-requires-in-6 : goal.possible-b-requires-in-6
possible-b-requires-in-6 t c = let f = q_falls c.row_at-r.ensures (search rules) {n = t} (search rules) (search rules) (search rules) in (f.0, (search rules, f.1))

pub possible-requires : goal.possible-requires
possible-requires t c = let f = p_falls c.row_at-r.ensures (search rules) {n = t} (search rules) (search rules) (search rules) in (f.0, (search rules, f.1))

pub possible-a-requires-in-8 : goal.possible-a-requires-in-8
possible-a-requires-in-8 t c = let f = p_falls c.row_at-r.ensures (search rules) {n = t} (search rules) (search rules) (search rules) in (f.0, (search rules, f.1))

pub returns-in-5 : goal.returns-in-5
returns-in-5 t c = search (possible_union, arith)

pub returns-in-6 : goal.returns-in-6
returns-in-6 t c = search (possible_concatenation, arith)

pub returns-in-7 : goal.returns-in-7
returns-in-7 t c = search (possible_conditioned, arith)

pub returns-in-8 : goal.returns-in-8
returns-in-8 t c = search (possible_repetition, arith)

pub returns-in-2-to-4 : goal.returns-in-2-to-4
returns-in-2-to-4 t c = search (possible_edge, arith)

pub returns-in_default : goal.returns-in_default
returns-in_default t c =
    elim c.in_default.branch [
      | in_default-via-then-kind-lt2 w ↦ search (possible_low, arith)
      | in_default-via-else-kind-lt2+else-kind-lt5 w ↦ search (possible_high, arith)
    ]
