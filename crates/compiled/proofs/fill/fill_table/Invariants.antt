use lib.ListN.{length}
use Prim.Native.Nat.{◌+◌, ◌≤◌}
use Rattle.compiled.specs.Copies.{Put, TableWord}
use Rattle.compiled.proofs.fill.fill_table.Given as goal

abbrev pub invariant-loop-i : goal.invariant-loop-i
invariant-loop-i l = (8 + length l.pattern ≤ length l.initial.plan) × Put 8 (TableWord l.pattern) l.i l.initial.plan l.plan
