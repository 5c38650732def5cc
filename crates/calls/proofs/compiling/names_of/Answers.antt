use Rattle.calls.proofs.CompileWays.{name_among, names_all, names_more, names_none}
use native.Mathlib.Omega.{arith}
use borrow.Author.Rules.{rules}
use Rattle.calls.proofs.compiling.names_of.Goals as goal

pub loop-i-init : goal.loop-i-init
loop-i-init c = search (names_none, arith)

pub part_at-p-requires : goal.part_at-p-requires
part_at-p-requires c = (search rules, search (name_among, arith))

pub loop-i-preserved : goal.loop-i-preserved
loop-i-preserved c = search (names_more, arith)

pub returns : goal.returns
returns c = search (names_all, arith)
