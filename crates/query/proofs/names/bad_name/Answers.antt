use Rattle.query.proofs.NameWays.{name_none, name_once, name_outside}
use native.Mathlib.Omega.{arith}
use Rattle.query.proofs.names.bad_name.Goals as goal

pub returns-then-name-eq0 : goal.returns-then-name-eq0
returns-then-name-eq0 c = search (name_none, arith)

pub returns-then-is_name : goal.returns-then-is_name
returns-then-is_name c = search (name_once, arith)

pub returns : goal.returns
returns c = search (name_outside, arith)
