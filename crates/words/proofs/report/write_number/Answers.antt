-- `words::report::write_number` meets its contract. Assumes nothing.
use native.Mathlib.Omega.{arith}
use Rattle.words.proofs.Written.{put_number_law}
use Rattle.words.proofs.report.write_number.Goals as goal

pub returns : goal.returns
returns c = search (put_number_law, arith)
