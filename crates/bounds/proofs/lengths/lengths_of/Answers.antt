-- `bounds::lengths::lengths_of` meets its contract. Assumes nothing.
use Rattle.bounds.proofs.DeadLengths.{only_these}
use Rattle.plan.proofs.TableSize.{root_some, root_there}
use native.Mathlib.Omega.{arith}
use Rattle.bounds.proofs.lengths.lengths_of.Goals as goal

pub overflow_sub-rows : goal.overflow_sub-rows
overflow_sub-rows c = search (root_some, arith)

pub possible-requires : goal.possible-requires
possible-requires c = search (root_there, arith)

pub returns : goal.returns
returns c = search (only_these, arith)
