use Rattle.query.proofs.AreaWays.{digits_variable, digits_name, digits_none}
use native.Mathlib.Omega.{arith}
use Rattle.query.proofs.type_area.found_code.Goals as goal

pub returns-then-x-lt9 : goal.returns-then-x-lt9
returns-then-x-lt9 c = search (digits_variable, arith)

pub returns-then-name_used : goal.returns-then-name_used
returns-then-name_used c = search (digits_name, arith)

pub returns : goal.returns
returns c = search (digits_none, arith)
