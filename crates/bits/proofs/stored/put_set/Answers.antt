-- `bits::stored::put_set` meets its contract. Assumes nothing.
use mathlib.Core.Path.{◌≡◌}
use lib.ListN.{length}
use Rattle.bits.proofs.SetWords.{stored_is}
use borrow.Author.Rules.{rules}
use Rattle.bits.proofs.stored.put_set.Goals as goal

pub returns : goal.returns
returns c =
    let a = c.args in
    let l : length a.x.w ≡ 4 = search rules in
    rw c.copy_from_slice.ensures.after (stored_is a.words.now a.x.w a.k (search rules) l)
