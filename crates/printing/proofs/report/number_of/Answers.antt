-- `printing::report::number_of` meets its contract. Assumes nothing.
use Rattle.printing.proofs.Reported.{number_read}
use Rattle.std.proofs.Common.{arith}
use Rattle.printing.proofs.report.number_of.Goals as goal

pub returns : goal.returns
returns c = search (number_read, arith)
