use Rattle.table.proofs.Descent.{p_stands, fifteen_yes, fifteen_no}
use native.Mathlib.Omega.{arith}
use borrow.Author.Rules.{rules}
use Rattle.table.proofs.repetition.too_deep.Goals as goal

pub depth-requires : goal.depth-requires
depth-requires c = p_stands c.row_at-r.ensures (search rules) (search rules) (search rules)

pub returns-in-8 : goal.returns-in-8
returns-in-8 c = search (fifteen_yes, arith)

pub returns-in_default : goal.returns-in_default
returns-in_default c = search (fifteen_no, arith)
