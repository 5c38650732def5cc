use Rattle.typecode.proofs.Codes.{repeat_absent, repeat_clash, repeat_group}
use native.Mathlib.Omega.{arith}
use Rattle.typecode.proofs.repeated_type.Goals as goal

pub returns-then-a-eq0 : goal.returns-then-a-eq0
returns-then-a-eq0 c = search (repeat_absent, arith)

pub returns-then-a-eq-CLASH : goal.returns-then-a-eq-CLASH
returns-then-a-eq-CLASH c = search (repeat_clash, arith)

pub returns : goal.returns
returns c = search (repeat_group, arith)
