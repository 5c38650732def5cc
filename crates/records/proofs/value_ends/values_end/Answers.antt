-- `records::value_ends::values_end` meets its contract: the ends of the values of the variables below `x` are made. Assumes nothing.
use native.Mathlib.Omega.{arith}
use Rattle.records.proofs.AllEnds.{ends_all}
use Rattle.records.proofs.Moves.{made_more, made_none}
use Rattle.records.proofs.value_ends.values_end.Goals as goal

pub loop-x-init : goal.loop-x-init
loop-x-init c = search (made_none, arith)

pub loop-x-preserved : goal.loop-x-preserved
loop-x-preserved c = search (made_more, arith)

pub returns : goal.returns
returns c = search (ends_all, arith)
