-- `bounds::row_lengths::repeated` meets its contract. Assumes nothing.
use Rattle.bounds.proofs.SumWays.{repeated_any, repeated_few}
use native.Mathlib.Omega.{arith}
use Rattle.bounds.proofs.row_lengths.repeated.Goals as goal

pub returns-then-more-lt-END : goal.returns-then-more-lt-END
returns-then-more-lt-END c = search (repeated_few, arith)

pub returns : goal.returns
returns c = search (repeated_any, arith)
