-- `join_judge::own::write_own` meets its contract. Assumes nothing.
use native.Mathlib.Omega.{arith}
use borrow.Author.Rules.{rules}
use Rattle.join_judge.proofs.OwnWays.{path_fits, value_fits, writing_all, writing_more, writing_none}
use Rattle.join_judge.proofs.own.write_own.Goals as goal

pub append-n-requires : goal.append-n-requires
append-n-requires c = search (path_fits, arith)

pub loop-x-init : goal.loop-x-init
loop-x-init c = search (writing_none, arith)

pub append_value-n-requires : goal.append_value-n-requires
append_value-n-requires c = search (value_fits, rules)

pub loop-x-preserved : goal.loop-x-preserved
loop-x-preserved c = search (writing_more, arith)

pub returns : goal.returns
returns c = search (writing_all, arith)
