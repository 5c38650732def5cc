use Rattle.compiled.proofs.Reading.{none_asked, one_asked}
use native.Mathlib.Omega.{arith}
use Rattle.compiled.proofs.look.is_labelled.Goals as goal

pub returns-then-label-eq0 : goal.returns-then-label-eq0
returns-then-label-eq0 c = search (none_asked, arith)

pub returns-else-label-eq0 : goal.returns-else-label-eq0
returns-else-label-eq0 c = search (one_asked, arith)
