-- `ways::set_at` meets its contract. Assumes nothing.
use mathlib.Core.Path.{refl}
use Rattle.bits.specs.Stores.{set_at}
use Rattle.bits.proofs.stored.set_at.Goals as goal

pub returns : goal.returns
unfolding set_at
returns c = refl
