-- `records::value_ends::one_end` meets its contract: the end of the value at its place, by its type; there is none without a type. Assumes nothing.
use native.Mathlib.Omega.{arith}
use Rattle.records.proofs.AllEnds.{end_of, end_unused}
use Rattle.records.proofs.value_ends.one_end.Goals as goal

pub returns-then-t-eq0 : goal.returns-then-t-eq0
returns-then-t-eq0 c = search (end_unused, arith)

pub returns : goal.returns
returns c = search (end_of, arith)
