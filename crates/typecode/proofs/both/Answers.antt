-- `typecode::both` meets its contract. Assumes nothing.
use native.Mathlib.Omega.{arith}
use Rattle.typecode.proofs.Codes.{both_same, both_right, both_left, both_none}
use Rattle.typecode.proofs.both.Goals as goal

pub returns-then-a-b : goal.returns-then-a-b
returns-then-a-b c = search (both_same, arith)

pub returns-then-b-a : goal.returns-then-b-a
returns-then-b-a c = search (both_right, arith)

pub returns-then-a-b-2 : goal.returns-then-a-b-2
returns-then-a-b-2 c = search (both_left, arith)

pub returns : goal.returns
returns c = search (both_none, arith)
