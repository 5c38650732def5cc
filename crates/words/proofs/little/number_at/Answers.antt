-- `words::little::number_at` meets its contract. Assumes nothing.
use native.Mathlib.Omega.{arith}
use Rattle.words.proofs.Numbers.{number_past, number_is}
use Rattle.words.proofs.little.number_at.Goals as goal

pub returns-then-bytes-at : goal.returns-then-bytes-at
returns-then-bytes-at c = search (number_past, arith)

pub returns : goal.returns
returns c = search (number_is, arith)
