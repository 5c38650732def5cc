-- `printing::pages::types_of` meets its contract. Assumes nothing.
use Rattle.printing.proofs.Accepting.{types_checked}
use Rattle.std.proofs.Common.{arith}
use Rattle.printing.proofs.pages.types_of.Goals as goal

pub returns : goal.returns
returns c = search (types_checked, arith)
