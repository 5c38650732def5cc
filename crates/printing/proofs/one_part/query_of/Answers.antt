-- `printing::one_part::query_of` meets its contract. Assumes nothing.
use Rattle.printing.proofs.Asking.{asks}
use Rattle.std.proofs.Common.{arith}
use Rattle.printing.proofs.one_part.query_of.Goals as goal

pub returns : goal.returns
returns c = search (asks, arith)
