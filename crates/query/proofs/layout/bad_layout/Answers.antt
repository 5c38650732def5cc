use Rattle.query.proofs.LayoutWays.{layout_empty, layout_none, layout_many, layout_short, layout_told}
use native.Mathlib.Omega.{arith}
use Rattle.query.proofs.layout.bad_layout.Goals as goal

pub returns-then-query-eq0 : goal.returns-then-query-eq0
returns-then-query-eq0 c = search (layout_empty, arith)

pub returns-then-n-lt1 : goal.returns-then-n-lt1
returns-then-n-lt1 c = search (layout_none, arith)

pub returns-then-n-gt4 : goal.returns-then-n-gt4
returns-then-n-gt4 c = search (layout_many, arith)

pub returns-then-query-n : goal.returns-then-query-n
returns-then-query-n c = search (layout_short, arith)

pub returns : goal.returns
returns c = search (layout_told, arith)
