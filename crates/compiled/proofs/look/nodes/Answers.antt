use Rattle.compiled.specs.Words.{nodes_in_lem}
use borrow.Author.Rules.{rules}
use Rattle.compiled.proofs.look.nodes.Goals as goal

pub returns : goal.returns
unfolding nodes_in_lem
returns c = search rules
