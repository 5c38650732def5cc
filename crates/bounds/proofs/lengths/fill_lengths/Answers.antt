-- `bounds::lengths::fill_lengths` meets its contract. Assumes nothing.
use Rattle.bounds.proofs.RootLengths.{lengths_filled, row_there}
use Rattle.plan.proofs.TableSize.{root_some}
use native.Mathlib.Omega.{arith}
use borrow.Author.Rules.{rules}
use Rattle.bounds.proofs.lengths.fill_lengths.Goals as goal

pub overflow_sub-n : goal.overflow_sub-n
overflow_sub-n c = search (root_some, arith)

pub possible-numbers-requires : goal.possible-numbers-requires
possible-numbers-requires c = (search rules, row_there _ (search rules) _ _ c.rows-n.ensures (omega arith))

pub returns : goal.returns
returns c = search (lengths_filled, arith)
