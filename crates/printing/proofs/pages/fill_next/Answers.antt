-- `printing::pages::fill_next` meets its contract. Assumes nothing.
use Rattle.printing.proofs.Runs.{followed_by}
use Rattle.std.proofs.Common.{arith}
use Rattle.printing.proofs.pages.fill_next.Goals as goal

pub returns : goal.returns
returns c = search (followed_by, arith)
