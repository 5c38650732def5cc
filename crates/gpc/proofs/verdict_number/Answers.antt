use borrow.Author.Rules.{rules}
use Rattle.meaning.specs.Report.{bit}
use Rattle.gpc.proofs.verdict_number.Goals as goal

pub returns : goal.returns
unfolding bit
returns c = search rules
