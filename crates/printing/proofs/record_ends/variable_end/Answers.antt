-- `printing::record_ends::variable_end` meets its contract. Assumes nothing.
use Rattle.printing.proofs.Ends.{variable_none, variable_value}
use Rattle.std.proofs.Common.{arith}
use Rattle.printing.proofs.record_ends.variable_end.Goals as goal

pub returns-then-word_at-eq0 : goal.returns-then-word_at-eq0
returns-then-word_at-eq0 c = search (variable_none, arith)

pub returns : goal.returns
returns c = search (variable_value, arith)
