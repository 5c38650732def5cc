-- `bounds::sums::multiples` meets its contract, by recursion on a falling measure. Assumes nothing.
use Rattle.bounds.proofs.SumWays.{multiples_even, multiples_none, multiples_odd, multiples_one}
use native.Mathlib.Omega.{arith}
use Rattle.bounds.proofs.sums.+multiples.Goals as goal

pub returns-then-n-eq0 : goal.returns-then-n-eq0
returns-then-n-eq0 t c = search (multiples_none, arith)

pub returns-then-n-eq1 : goal.returns-then-n-eq1
returns-then-n-eq1 t c = search (multiples_one, arith)

pub returns-then-n-eq0-2 : goal.returns-then-n-eq0-2
returns-then-n-eq0-2 t c = search (multiples_even, arith)

pub returns : goal.returns
returns t c = search (multiples_odd, arith)
