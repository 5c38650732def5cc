-- `printing::bookmark::last_record` meets its contract. Assumes nothing.
use Rattle.std.proofs.Common.{arith}
use Rattle.printing.proofs.Last.{seeking_end, seeking_more, seeking_start}
use Rattle.printing.proofs.bookmark.last_record.Goals as goal

pub loop-at-init : goal.loop-at-init
loop-at-init c = search (seeking_start, arith)

pub loop-at-preserved : goal.loop-at-preserved
loop-at-preserved c = search (seeking_more, arith)

pub returns : goal.returns
returns c = search (seeking_end, arith)
