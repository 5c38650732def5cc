-- `words::report::write_numbers` meets its contract. Assumes nothing.
use borrow.Author.Rules.{rules}
use native.Mathlib.Omega.{arith}
use Rattle.words.proofs.Written.{written_none, written_more, written_all}
use Rattle.words.proofs.report.write_numbers.Goals as goal

pub loop-i-init : goal.loop-i-init
loop-i-init c = search (written_none, rules)

pub loop-i-preserved : goal.loop-i-preserved
loop-i-preserved c = search (written_more, arith)

pub returns : goal.returns
returns c = search (written_all, arith)
