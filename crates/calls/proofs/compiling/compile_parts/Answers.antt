use Rattle.calls.proofs.CompileWays.{part_among, plans_all, plans_more, plans_none}
use native.Mathlib.Omega.{arith}
use borrow.Author.Rules.{rules}
use Rattle.calls.proofs.compiling.compile_parts.Goals as goal

pub loop-i-init : goal.loop-i-init
loop-i-init c = search (plans_none, arith)

pub compile_part-requires : goal.compile_part-requires
compile_part-requires c = (search rules, search (part_among, arith), search rules, search rules)

pub loop-i-preserved : goal.loop-i-preserved
loop-i-preserved c = search (plans_more, arith)

pub returns : goal.returns
returns c = search (plans_all, arith)
