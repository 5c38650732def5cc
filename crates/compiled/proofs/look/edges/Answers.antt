use Rattle.compiled.specs.Words.{edges_in_lem}
use borrow.Author.Rules.{rules}
use Rattle.compiled.proofs.look.edges.Goals as goal

pub returns : goal.returns
unfolding edges_in_lem
returns c = search rules
