-- `join_judge::own::append` meets its contract. Assumes nothing.
use native.Mathlib.Omega.{arith}
use Rattle.join_judge.proofs.OwnWays.{appended}
use Rattle.join_judge.proofs.own.append.Goals as goal

pub returns : goal.returns
returns c = search (appended, arith)
