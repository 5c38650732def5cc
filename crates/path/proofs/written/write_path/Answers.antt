-- `path::written::write_path` meets its contract. Assumes nothing.
use native.Mathlib.Omega.{arith}
use Rattle.path.proofs.Copied.{copied_whole}
use Rattle.path.proofs.written.write_path.Goals as goal

pub returns : goal.returns
returns c = search (copied_whole, arith)
