-- `image::sections::sections_of` meets its contract. Assumes nothing.
use native.Mathlib.Omega.{arith}
use Rattle.image.proofs.Listing.{laid}
use Rattle.image.proofs.sections.sections_of.Goals as goal

pub returns : goal.returns
returns c = search (laid, arith)
