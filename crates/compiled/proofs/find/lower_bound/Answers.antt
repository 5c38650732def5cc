use Rattle.compiled.proofs.Searching.{narrow_down, narrow_none, narrow_up, narrowed}
use native.Mathlib.Omega.{arith}
use Rattle.compiled.proofs.find.lower_bound.Goals as goal

pub loop-low-init : goal.loop-low-init
loop-low-init c = search (narrow_none, arith)

pub loop-low-preserved-then-w-pair : goal.loop-low-preserved-then-w-pair
loop-low-preserved-then-w-pair c = search (narrow_up, arith)

pub loop-low-preserved : goal.loop-low-preserved
loop-low-preserved c = search (narrow_down, arith)

pub returns : goal.returns
returns c = search (narrowed, arith)
