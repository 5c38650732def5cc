use Rattle.query.proofs.LayoutWays.{head_begins, head_room, part_found, heads_room}
use native.Mathlib.Omega.{arith}
use Rattle.query.proofs.layout.part_at.Goals as goal

pub pattern_start-from-requires : goal.pattern_start-from-requires
pattern_start-from-requires c = search (heads_room, arith)

pub bounds-query-at : goal.bounds-query-at
bounds-query-at c = search (head_begins, arith)

pub bounds-query-at-2 : goal.bounds-query-at-2
bounds-query-at-2 c = search (head_room, arith)

pub bounds-query-at-3 : goal.bounds-query-at-3
bounds-query-at-3 c = search (head_room, arith)

pub returns : goal.returns
returns c = search (part_found, arith)
