use Rattle.meaning.specs.QueryWords.{is_name_lem}
use Rattle.query.proofs.Ranges.{in_range, too_low, too_high}
use native.Mathlib.Omega.{arith}
use Rattle.query.proofs.names.is_name.Goals as goal

pub returns-in-9-to-12 : goal.returns-in-9-to-12
unfolding is_name_lem
returns-in-9-to-12 c = search (in_range, arith)

pub returns-in_default : goal.returns-in_default
unfolding is_name_lem
returns-in_default c = search (too_low, arith)

pub returns-in_default-2 : goal.returns-in_default-2
unfolding is_name_lem
returns-in_default-2 c = search (too_high, arith)
