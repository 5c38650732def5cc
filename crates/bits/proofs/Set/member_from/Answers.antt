-- `bits::Set::member_from` meets its contract: in its word, or in a later one. Assumes nothing.
use native.Mathlib.Omega.{arith}
use borrow.Author.Rules.{rules}
use Rattle.bits.proofs.Search.{seek_none, seek_more, seek_hit, seek_end, seek_on}
use Rattle.bits.proofs.Set.member_from.Goals as goal

pub returns-then-from-ge-END : goal.returns-then-from-ge-END
returns-then-from-ge-END c = search (seek_end, seek_none, arith)

pub returns-then-x-ne0 : goal.returns-then-x-ne0
returns-then-x-ne0 c = search (seek_hit, seek_none, rules)

pub returns : goal.returns
returns c = search (seek_on, seek_more, seek_none, arith)
