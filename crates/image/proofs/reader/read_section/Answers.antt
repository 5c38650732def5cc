-- `image::reader::read_section` meets its contract. Assumes nothing.
use native.Mathlib.Omega.{arith}
use Rattle.image.proofs.Causes.{section_bad, section_fine}
use Rattle.image.proofs.reader.read_section.Goals as goal

pub returns-in-Some : goal.returns-in-Some
returns-in-Some c = search (section_bad, arith)

pub returns-in-None : goal.returns-in-None
returns-in-None c = search (section_fine, arith)
