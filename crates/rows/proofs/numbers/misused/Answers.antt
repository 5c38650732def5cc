use Rattle.rows.proofs.Misuse.{mis_zero, mis_name, mis_any, mis_above, mis_above_c, mis_pattern, mis_condition, mis_none, mis_variable, mis_count, mis_rest}
use native.Mathlib.Omega.{arith}
use Rattle.rows.proofs.numbers.misused.Goals as goal

pub returns-then-i-n : goal.returns-then-i-n
returns-then-i-n c = search (mis_above, arith)

pub returns-then-i-n-2 : goal.returns-then-i-n-2
returns-then-i-n-2 c = search (mis_above_c, arith)

pub returns-in-0 : goal.returns-in-0
returns-in-0 c = search (mis_zero, arith)

pub returns-in-1 : goal.returns-in-1
returns-in-1 c = search (mis_name, arith)

pub returns-in-2 : goal.returns-in-2
returns-in-2 c = search (mis_any, arith)

pub returns-else-i-n : goal.returns-else-i-n
returns-else-i-n c = search (mis_pattern, arith)

pub returns-else-i-n-2 : goal.returns-else-i-n-2
returns-else-i-n-2 c = search (mis_condition, arith)

pub returns-then-n-eq0 : goal.returns-then-n-eq0
returns-then-n-eq0 c = search (mis_none, arith)

pub returns-else-n-eq0 : goal.returns-else-n-eq0
returns-else-n-eq0 c = search (mis_variable, arith)

pub returns-in-6 : goal.returns-in-6
returns-in-6 c = search (mis_count, arith)

pub returns-in_default : goal.returns-in_default
returns-in_default c = search (mis_rest, arith)
