-- `words::report::write_report` meets its contract. Assumes nothing.
use native.Mathlib.Omega.{arith}
use Rattle.words.proofs.Written.{report_written}
use Rattle.words.proofs.report.write_report.Goals as goal

pub returns : goal.returns
returns c = search (report_written, arith)
