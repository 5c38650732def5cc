-- `join_judge::named::named_end` meets its contract. Assumes nothing.
use native.Mathlib.Omega.{arith}
use Rattle.join_judge.proofs.NameWays.{has_path, named_below, named_stands, none_named}
use Rattle.join_judge.proofs.named.named_end.Goals as goal

pub name_end-requires : goal.name_end-requires
name_end-requires c = let f = c.in-Some.ensures in let l = named_below f in search (has_path, arith)

pub returns-in-Some : goal.returns-in-Some
returns-in-Some c = let f = c.in-Some.ensures in search (named_stands, arith)

pub returns-in-None : goal.returns-in-None
returns-in-None c = let f = c.in-None.ensures in search (none_named, arith)
