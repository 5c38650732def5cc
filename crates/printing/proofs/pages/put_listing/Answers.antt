-- `printing::pages::put_listing` meets its contract. Assumes nothing.
use Rattle.printing.proofs.Accepting.{no_query_fault}
use Rattle.std.proofs.Common.{arith}
use Rattle.printing.proofs.pages.put_listing.Goals as goal

pub types_of-types-requires : goal.types_of-types-requires
types_of-types-requires g c = search (no_query_fault, arith)
