use Rattle.rows.proofs.Rows.{reads}
use native.Mathlib.Omega.{arith}
use Rattle.rows.proofs.row.row_at.Goals as goal

pub returns : goal.returns
returns c = search (reads, arith)
