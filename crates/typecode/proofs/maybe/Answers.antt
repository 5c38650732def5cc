use Rattle.typecode.proofs.Codes.{opt_same, opt_more}
use native.Mathlib.Omega.{arith}
use Rattle.typecode.proofs.maybe.Goals as goal

pub returns-then-a-eq-MAYBE : goal.returns-then-a-eq-MAYBE
returns-then-a-eq-MAYBE c = search (opt_same, arith)

pub returns-else-a-eq-MAYBE : goal.returns-else-a-eq-MAYBE
returns-else-a-eq-MAYBE c = search (opt_more, arith)
