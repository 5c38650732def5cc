-- `printing::record_ends::record_end` meets its contract. Assumes nothing.
use Rattle.std.proofs.Common.{arith}
use Rattle.printing.proofs.Ends.{variables_done, variables_more, variables_start}
use Rattle.printing.proofs.record_ends.record_end.Goals as goal

pub loop-variable-init : goal.loop-variable-init
loop-variable-init c = search (variables_start, arith)

pub loop-variable-preserved : goal.loop-variable-preserved
loop-variable-preserved c = search (variables_more, arith)

pub returns : goal.returns
returns c = variables_done _ _ _ _ _ (omega arith) c.loop-variable.invariant
