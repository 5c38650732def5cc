-- `compiled::fill::fill_part` meets its contract. Assumes nothing.
use native.Mathlib.Omega.{arith}
use Rattle.compiled.proofs.Compiling.{part_filled}
use Rattle.compiled.proofs.fill.fill_part.Goals as goal

pub returns : goal.returns
returns c = search (part_filled, arith)
