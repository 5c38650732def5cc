use Rattle.compiled.specs.Words.{properties_in}
use borrow.Author.Rules.{rules}
use Rattle.compiled.proofs.look.properties.Goals as goal

pub returns : goal.returns
unfolding properties_in
returns c = search rules
