-- `compiled::fill::fill_head` meets its contract. Assumes nothing.
use native.Mathlib.Omega.{arith}
use lib.ListN.{length-set}
use Rattle.compiled.proofs.Compiling.{head_filled}
use Rattle.compiled.proofs.Parts.{accepted_short}
use Rattle.compiled.proofs.fill.fill_head.Goals as goal

pub fill_table-requires : goal.fill_table-requires
fill_table-requires c = (search (accepted_short, arith), simp length-set (omega arith))

pub shape_of-plan : goal.shape_of-plan
shape_of-plan c = omega (arith, simp length-set at c.fill_table.ensures.long)

pub returns : goal.returns
returns c = search (head_filled, accepted_short, arith)
