use Rattle.typecode.proofs.Codes.{union_clash, union_clash_b, union_absent, union_right, union_left, union_both}
use native.Mathlib.Omega.{arith}
use Rattle.typecode.proofs.union_type.Goals as goal

pub returns-then-a-eq-CLASH : goal.returns-then-a-eq-CLASH
returns-then-a-eq-CLASH c = search (union_clash, arith)

pub returns-then-b-eq-CLASH : goal.returns-then-b-eq-CLASH
returns-then-b-eq-CLASH c = search (union_clash_b, arith)

pub returns-then-b-eq0 : goal.returns-then-b-eq0
returns-then-b-eq0 c = search (union_absent, arith)

pub returns-then-a-eq0 : goal.returns-then-a-eq0
returns-then-a-eq0 c = search (union_right, arith)

pub returns-then-b-eq0-2 : goal.returns-then-b-eq0-2
returns-then-b-eq0-2 c = search (union_left, arith)

pub returns : goal.returns
returns c = search (union_both, arith)
