-- `join_judge::own::append_value` meets its contract. Assumes nothing.
use native.Mathlib.Omega.{arith}
use Rattle.join_judge.proofs.OwnWays.{value_appended, value_left_out}
use Rattle.join_judge.proofs.own.append_value.Goals as goal

pub returns-then-type_in-eq0 : goal.returns-then-type_in-eq0
returns-then-type_in-eq0 c = search (value_left_out, arith)

pub returns : goal.returns
returns c = search (value_appended, arith)
