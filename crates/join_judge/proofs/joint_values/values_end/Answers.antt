-- `join_judge::values::values_end` meets its contract. Assumes nothing.
use mathlib.Core.Path.{◌≡◌}
use native.Mathlib.Omega.{arith}
use lib.ListN.{length}
use borrow.Author.Rules.{rules}
use Rattle.join_judge.proofs.ValueWays.{values_are}
use Rattle.join_judge.proofs.joint_values.values_end.Goals as goal

pub slots_from-requires : goal.slots_from-requires
slots_from-requires c = let l : length c.args.shape.types ≡ 9 = search rules in search rules

pub returns : goal.returns
returns c = search (values_are, arith)
