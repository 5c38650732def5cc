-- `printing::pages::fill` meets its contract. Assumes nothing.
use Rattle.printing.proofs.Runs.{filled_by}
use Rattle.std.proofs.Common.{arith}
use Rattle.printing.proofs.pages.fill.Goals as goal

pub returns : goal.returns
returns c = search (filled_by, arith)
