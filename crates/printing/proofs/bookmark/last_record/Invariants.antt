use Rattle.std.proofs.Common.{◌-◌, length}
use Rattle.printing.proofs.Last.{Seeking}
use Rattle.printing.proofs.bookmark.last_record.Given as goal

abbrev pub invariant-loop-at : goal.invariant-loop-at
invariant-loop-at l = Seeking l.types l.words l.last l.at

abbrev pub decreases-loop-at : goal.decreases-loop-at
decreases-loop-at l = length l.words - l.at
