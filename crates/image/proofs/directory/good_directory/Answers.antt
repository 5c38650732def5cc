-- `image::directory::good_directory` meets its contract. Assumes nothing.
use native.Mathlib.Omega.{arith}
use Rattle.image.proofs.Listing.{sums_fit, meeting, not_meeting}
use Rattle.image.proofs.directory.good_directory.Goals as goal

pub sections_meet-requires : goal.sections_meet-requires
sections_meet-requires c = search (sums_fit, arith)

pub returns-then-sections_meet : goal.returns-then-sections_meet
returns-then-sections_meet c = search (meeting, arith)

pub returns-else-sections_meet : goal.returns-else-sections_meet
returns-else-sections_meet c = search (not_meeting, arith)
