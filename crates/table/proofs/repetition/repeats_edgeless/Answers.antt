use Rattle.table.proofs.Descent.{p_stands, fourteen_yes, fourteen_no}
use native.Mathlib.Omega.{arith}
use borrow.Author.Rules.{rules}
use Rattle.table.proofs.repetition.repeats_edgeless.Goals as goal

pub edgeless-requires : goal.edgeless-requires
edgeless-requires c = p_stands c.row_at-r.ensures (search rules) (search rules) (search rules)

pub returns-in-8 : goal.returns-in-8
returns-in-8 c = search (fourteen_yes, arith)

pub returns-in_default : goal.returns-in_default
returns-in_default c = search (fourteen_no, arith)
