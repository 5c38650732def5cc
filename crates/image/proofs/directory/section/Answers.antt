-- `image::directory::section` meets its contract. Assumes nothing.
use borrow.Author.Rules.{rules}
use Rattle.meaning.specs.Image.{offset, section_length}
use Rattle.image.proofs.directory.section.Goals as goal

pub returns : goal.returns
unfolding offset section_length
returns c = search rules
