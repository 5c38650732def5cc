-- `bounds::greatest::repeated` meets its contract. Assumes nothing.
use native.Mathlib.Omega.{arith}
use Rattle.bounds.proofs.RowLengths.{repeated_is}
use Rattle.bounds.proofs.greatest.repeated.Goals as goal

pub returns : goal.returns
returns c = search (repeated_is, arith)
