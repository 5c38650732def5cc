use Rattle.compiled.specs.Words.{labels_in}
use borrow.Author.Rules.{rules}
use Rattle.compiled.proofs.look.labels.Goals as goal

pub returns : goal.returns
unfolding labels_in
returns c = search rules
