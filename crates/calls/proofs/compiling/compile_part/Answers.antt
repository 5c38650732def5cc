use Rattle.calls.proofs.CompileWays.{part_accepted, part_compiled, part_completed}
use Rattle.compiled.proofs.Compiling.{part_sound}
use native.Mathlib.Omega.{arith}
use borrow.Author.Rules.{rules}
use Rattle.calls.proofs.compiling.compile_part.Goals as goal

pub fill_part-requires : goal.fill_part-requires
fill_part-requires c = (search (part_accepted, arith), search rules)

pub fill_plan-requires : goal.fill_plan-requires
fill_plan-requires c = (search (part_sound, part_accepted, arith), search rules, search rules)

pub returns-then-listed : goal.returns-then-listed
returns-then-listed c = search (part_completed, arith)

pub returns-else-listed : goal.returns-else-listed
returns-else-listed c = search (part_compiled, arith)
