use Rattle.compiled.proofs.Copying.{property_owner_law}
use native.Mathlib.Omega.{arith}
use Rattle.compiled.proofs.copy.property_owner.Goals as goal

pub returns : goal.returns
returns c = search (property_owner_law, arith)
