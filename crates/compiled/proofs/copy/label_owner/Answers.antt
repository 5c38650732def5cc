use Rattle.compiled.proofs.Copying.{label_owner_law}
use native.Mathlib.Omega.{arith}
use Rattle.compiled.proofs.copy.label_owner.Goals as goal

pub returns : goal.returns
returns c = search (label_owner_law, arith)
