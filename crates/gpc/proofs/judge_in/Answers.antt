use borrow.Author.Rules.{rules}
use Rattle.gpc.proofs.Answering.{drop_part}
use Rattle.gpc.proofs.judge_in.Goals as goal

pub returns : goal.returns
returns c = (search rules, record { is = drop_part 20000 c.judge.new.work _ (search rules) })
