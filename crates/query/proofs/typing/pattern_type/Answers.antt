use Rattle.query.proofs.TypeWays.{root_type, root_within, some_row}
use native.Mathlib.Omega.{arith}
use Rattle.query.proofs.typing.pattern_type.Goals as goal

pub overflow_sub-pattern : goal.overflow_sub-pattern
overflow_sub-pattern c = search (some_row, arith)

pub row_type-requires : goal.row_type-requires
row_type-requires c = search (root_within, arith)

pub returns : goal.returns
returns c = search (root_type, arith)
