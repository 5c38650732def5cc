-- `join_judge::values::value_to` meets its contract. Assumes nothing.
use native.Mathlib.Omega.{arith}
use Rattle.join_judge.proofs.ValueWays.{no_value, some_value}
use Rattle.join_judge.proofs.joint_values.value_to.Goals as goal

pub returns-then-t-eq0 : goal.returns-then-t-eq0
returns-then-t-eq0 c = search (no_value, arith)

pub returns : goal.returns
returns c = search (some_value, arith)
