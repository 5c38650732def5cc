-- `printing::record_ends::path_end` meets its contract. Assumes nothing.
use Rattle.printing.proofs.Ends.{path_end_law}
use Rattle.std.proofs.Common.{arith}
use Rattle.printing.proofs.record_ends.path_end.Goals as goal

pub returns : goal.returns
returns c = search (path_end_law, arith)
