use Rattle.table.proofs.FirstFault.{check_partial, check_empty, check_long, check_table}
use native.Mathlib.Omega.{arith}
use Rattle.table.proofs.causes.check.Goals as goal

pub returns-then-n-ne0 : goal.returns-then-n-ne0
returns-then-n-ne0 c = search (check_partial, arith)

pub returns-then-n-eq0 : goal.returns-then-n-eq0
returns-then-n-eq0 c = search (check_empty, arith)

pub returns-then-n-gt320 : goal.returns-then-n-gt320
returns-then-n-gt320 c = search (check_long, arith)

pub returns : goal.returns
returns c = search (check_table, arith)
