use lib.ListN.{take}
use Rattle.bookmarks.proofs.LiesWays.{OnSoFar}
use Rattle.bookmarks.proofs.side.lies.Given as goal

abbrev pub invariant-loop-i : goal.invariant-loop-i
invariant-loop-i l = OnSoFar l.bookmark (take l.end l.words) l.i
