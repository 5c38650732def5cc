-- `printing::pages::put_answer` meets its contract. Assumes nothing.
use Rattle.printing.proofs.Runs.{first_by}
use Rattle.std.proofs.Common.{arith}
use Rattle.printing.proofs.pages.put_answer.Goals as goal

pub put_listing-requires : goal.put_listing-requires
put_listing-requires g c = search (first_by, c.fill.ensures, arith)
