use Rattle.rows.proofs.Sorts.{is_pattern_law}
use native.Mathlib.Omega.{arith}
use Rattle.rows.proofs.row.is_pattern.Goals as goal

pub returns : goal.returns
returns c = search (is_pattern_law, arith)
