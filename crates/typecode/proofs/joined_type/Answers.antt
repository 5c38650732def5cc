use Rattle.typecode.proofs.Codes.{join_right, join_clash, join_left, join_node, join_edge, join_other, join_apart}
use native.Mathlib.Omega.{arith}
use Rattle.typecode.proofs.joined_type.Goals as goal

pub returns-then-a-eq0 : goal.returns-then-a-eq0
returns-then-a-eq0 c = search (join_right, arith)

pub returns-then-a-eq-CLASH : goal.returns-then-a-eq-CLASH
returns-then-a-eq-CLASH c = search (join_clash, arith)

pub returns-then-b-eq0 : goal.returns-then-b-eq0
returns-then-b-eq0 c = search (join_left, arith)

pub returns-then-a-eq-NODE : goal.returns-then-a-eq-NODE
returns-then-a-eq-NODE c = search (join_node, arith)

pub returns-then-a-eq-EDGE : goal.returns-then-a-eq-EDGE
returns-then-a-eq-EDGE c = search (join_edge, arith)

pub returns-else-a-eq-EDGE : goal.returns-else-a-eq-EDGE
returns-else-a-eq-EDGE c = search (join_other, join_apart, arith)

pub returns-else-a-b : goal.returns-else-a-b
returns-else-a-b c = search (join_other, join_apart, arith)
