use Rattle.typecode.proofs.Codes.{name_none, name_this, name_other}
use native.Mathlib.Omega.{arith}
use Rattle.typecode.proofs.named_type.Goals as goal

pub returns-then-y-eq0 : goal.returns-then-y-eq0
returns-then-y-eq0 c = search (name_none, arith)

pub returns-then-y-x : goal.returns-then-y-x
returns-then-y-x c = search (name_this, arith)

pub returns-else-y-x : goal.returns-else-y-x
returns-else-y-x c = search (name_other, arith)
