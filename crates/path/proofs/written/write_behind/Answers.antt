-- `path::written::write_behind` meets its contract. Assumes nothing.
use native.Mathlib.Omega.{arith}
use Rattle.path.proofs.Copied.{copied_behind}
use Rattle.path.proofs.written.write_behind.Goals as goal

pub returns : goal.returns
returns c = search (copied_behind, arith)
