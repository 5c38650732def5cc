use Rattle.query.proofs.LayoutWays.{some_word, parts_counted}
use native.Mathlib.Omega.{arith}
use Rattle.query.proofs.layout.parts.Goals as goal

pub bounds-query-0 : goal.bounds-query-0
bounds-query-0 c = search (some_word, arith)

pub returns : goal.returns
returns c = search (parts_counted, arith)
