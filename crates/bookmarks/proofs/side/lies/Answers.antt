-- `bookmarks::side::lies` meets its contract. Assumes nothing.
use native.Mathlib.Omega.{arith}
use Rattle.bookmarks.proofs.LiesWays.{lies_more, lies_off, lies_start, lies_whole}
use Rattle.bookmarks.proofs.side.lies.Goals as goal

pub loop-i-init : goal.loop-i-init
loop-i-init c = lies_start

pub returns-in_default : goal.returns-in_default
returns-in_default c = lies_off c.loop-i.invariant (omega arith) c.wide.ensures.0 c.turn_at.ensures c.in_default.not-On

pub loop-i-preserved : goal.loop-i-preserved
loop-i-preserved c = search (lies_more, arith)

pub returns : goal.returns
returns c = search (lies_whole, arith)
