-- `conditions::bound::Bound::with` meets its contract. Assumes nothing.
use mathlib.Core.Path.{◌≡◌}
use lib.ListN.{length}
use Rattle.conditions.proofs.Slots.{length_mapped, rebound}
use borrow.Author.Rules.{rules}
use Rattle.conditions.proofs.bound.Bound.with.Goals as goal

pub returns : goal.returns
returns c = let l : length c.args.self.slots ≡ 9 = search (length_mapped, rules) in rebound c.args.self c.args.x c.args.known l (search rules)
