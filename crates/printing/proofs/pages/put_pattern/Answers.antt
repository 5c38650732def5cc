-- `printing::pages::put_pattern` meets its contract. Assumes nothing.
use Rattle.printing.proofs.Asking.{asks_one_part}
use Rattle.std.proofs.Common.{arith}
use Rattle.printing.proofs.pages.put_pattern.Goals as goal

pub put_answer-requires : goal.put_answer-requires
put_answer-requires g c = search (asks_one_part, arith)
