use Rattle.typecode.proofs.Octal.{put_six}
use lib.ListN.{length-set}
use native.Mathlib.Omega.{arith}
use Rattle.typecode.proofs.digits.put_type.Goals as goal

pub bounds-types-at-2 : goal.bounds-types-at-2
bounds-types-at-2 c = simp length-set (omega arith)

pub bounds-types-at-3 : goal.bounds-types-at-3
bounds-types-at-3 c = simp length-set (omega arith)

pub bounds-types-at-4 : goal.bounds-types-at-4
bounds-types-at-4 c = simp length-set (omega arith)

pub bounds-types-at-5 : goal.bounds-types-at-5
bounds-types-at-5 c = simp length-set (omega arith)

pub bounds-types-at-6 : goal.bounds-types-at-6
bounds-types-at-6 c = simp length-set (omega arith)

pub returns : goal.returns
returns c = search (put_six, arith)
