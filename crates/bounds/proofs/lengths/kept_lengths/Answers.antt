-- `bounds::lengths::kept_lengths` meets its contract. Assumes nothing.
use Rattle.bounds.proofs.DeadLengths.{only_kept}
use native.Mathlib.Omega.{arith}
use Rattle.bounds.proofs.lengths.kept_lengths.Goals as goal

pub returns : goal.returns
returns c = search (only_kept, arith)
