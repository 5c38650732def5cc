-- `conditions::known::binding_at` meets its contract. Assumes nothing.
use Rattle.conditions.proofs.KnownWords.{at_known, at_unknown}
use native.Mathlib.Omega.{arith}
use Rattle.conditions.proofs.known.binding_at.Goals as goal

pub returns-then-place-known : goal.returns-then-place-known
returns-then-place-known c = search (at_known, arith)

pub returns-else-place-known : goal.returns-else-place-known
returns-else-place-known c = search (at_unknown, arith)
