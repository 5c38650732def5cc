use Rattle.rows.proofs.Rows.{reads}
use native.Mathlib.Omega.{arith}
use Rattle.compiled.proofs.part.row_at.Goals as goal

pub returns : goal.returns
returns c = search (reads, arith)
