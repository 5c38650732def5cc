use Rattle.table.proofs.TypedRows.{untyped_clash, untyped_fits, untyped_not}
use Rattle.table.proofs.Descent.{p_typable, q_stands}
use native.Mathlib.Omega.{arith}
use borrow.Author.Rules.{rules}
use Rattle.table.proofs.typing.untyped.Goals as goal

pub returns-then-clashes : goal.returns-then-clashes
returns-then-clashes c = search (untyped_clash, arith)

pub fits-requires : goal.fits-requires
fits-requires c = (p_typable c.row_at-r.ensures (search rules) (search rules) (search rules), q_stands c.row_at-r.ensures (search rules) (search rules) (search rules))

pub returns-in-7 : goal.returns-in-7
returns-in-7 c = search (untyped_fits, arith)

pub returns-in_default : goal.returns-in_default
returns-in_default c = search (untyped_not, arith)
