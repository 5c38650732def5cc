-- `join_judge::named::are_names` meets its contract. Assumes nothing.
use native.Mathlib.Omega.{arith}
use Rattle.join_judge.proofs.NameWays.{names_behind, names_differ}
use Rattle.join_judge.proofs.named.are_names.Goals as goal

pub returns-in-Some : goal.returns-in-Some
returns-in-Some c = let f = c.in-Some.ensures in search (names_behind, arith)

pub returns-in-None : goal.returns-in-None
returns-in-None c = let f = c.in-None.ensures in search (names_differ, arith)
