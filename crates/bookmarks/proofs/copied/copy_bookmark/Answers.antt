-- `bookmarks::copied::copy_bookmark` meets its contract. Assumes nothing.
use native.Mathlib.Omega.{arith}
use Rattle.bookmarks.proofs.CopyWays.{copied_all, copied_part}
use Rattle.bookmarks.proofs.copied.copy_bookmark.Goals as goal

pub returns-then-long-room : goal.returns-then-long-room
returns-then-long-room c = search (copied_all, arith)

pub returns : goal.returns
returns c = search (copied_part, arith)
