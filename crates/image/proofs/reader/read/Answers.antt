-- `image::reader::read` meets its contract. Assumes nothing.
use native.Mathlib.Omega.{arith}
use Rattle.image.proofs.Causes.{too_short, bad_directory, too_many_rows, by_rows}
use Rattle.image.proofs.reader.read.Goals as goal

pub returns-then-image-lt16 : goal.returns-then-image-lt16
returns-then-image-lt16 c = search (too_short, arith)

pub returns-then-not-good_directory : goal.returns-then-not-good_directory
returns-then-not-good_directory c = search (bad_directory, arith)

pub returns-then-too_many : goal.returns-then-too_many
returns-then-too_many c = search (too_many_rows, arith)

pub returns : goal.returns
returns c = search (by_rows, arith)
