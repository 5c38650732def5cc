-- `bits::Set::member_in` meets its contract: no number of a word that was passed is in the set. Assumes nothing.
use native.Mathlib.Omega.{arith}
use borrow.Author.Rules.{rules}
use Rattle.bits.proofs.Search.{seek_none, seek_end, word_hit, word_more}
use Rattle.bits.proofs.Set.member_in.Goals as goal

pub loop-i-init : goal.loop-i-init
loop-i-init c = search (seek_none, arith)

pub returns-then-x-ne0 : goal.returns-then-x-ne0
returns-then-x-ne0 c = search (word_hit, rules)

pub loop-i-preserved : goal.loop-i-preserved
loop-i-preserved c = search (word_more, arith)

pub returns : goal.returns
returns c = search (seek_end, arith)
