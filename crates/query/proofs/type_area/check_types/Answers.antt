use Rattle.query.proofs.AreaWays.{accepted_by, left_short, left_types, left_zeros}
use native.Mathlib.Omega.{arith}
use Rattle.query.proofs.type_area.check_types.Goals as goal

pub returns-then-types-lt72 : goal.returns-then-types-lt72
returns-then-types-lt72 c = search (left_short, arith)

pub write_types-requires : goal.write_types-requires
write_types-requires c = search (accepted_by, arith)

pub returns-then-is_err : goal.returns-then-is_err
returns-then-is_err c = search (left_zeros, arith)

pub returns-else-is_err : goal.returns-else-is_err
returns-else-is_err c = search (left_types, arith)
