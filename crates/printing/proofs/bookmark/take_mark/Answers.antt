-- `printing::bookmark::take_mark` meets its contract. Assumes nothing.
use Rattle.printing.proofs.Last.{marked}
use Rattle.std.proofs.Common.{rules}
use Rattle.printing.proofs.bookmark.take_mark.Goals as goal

pub returns : goal.returns
returns c = let a = c.args in
    marked a.types.now a.page.now a.mark.now _ a.used _ (search rules) c.last_record-last.ensures c.copy_at.ensures
