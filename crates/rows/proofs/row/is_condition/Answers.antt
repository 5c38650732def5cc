use Rattle.rows.proofs.Sorts.{is_condition_law}
use native.Mathlib.Omega.{arith}
use Rattle.rows.proofs.row.is_condition.Goals as goal

pub returns : goal.returns
returns c = search (is_condition_law, arith)
