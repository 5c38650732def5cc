use Rattle.rows.proofs.Places.{twice_sum}
use native.Mathlib.Omega.{arith}
use Rattle.rows.proofs.naming.twice.Goals as goal

pub returns : goal.returns
returns c = search (twice_sum, arith)
