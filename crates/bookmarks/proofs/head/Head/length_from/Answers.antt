-- `bookmarks::Head::length_from` meets its contract: the two ways. Assumes nothing.
use native.Mathlib.Omega.{arith}
use Rattle.bookmarks.proofs.HeadWays.{from_bookmark}
use Rattle.bookmarks.proofs.head.Head.length_from.Goals as goal

pub returns-in-Some : goal.returns-in-Some
returns-in-Some c = search (from_bookmark, arith)
