-- `gpc::is_short` meets its contract. Assumes nothing.
use native.Mathlib.Omega.{arith}
use Rattle.gpc.proofs.Ways.{short_is}
use Rattle.gpc.proofs.is_short.Goals as goal

pub returns : goal.returns
returns c = search (short_is, arith)
