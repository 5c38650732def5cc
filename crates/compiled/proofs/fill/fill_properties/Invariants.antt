use Prim.Native.Nat.{◌+◌, ◌≤◌}
use lib.ListN.{length}
use Rattle.compiled.specs.Copies.{Put, PropertyWord}
use Rattle.compiled.proofs.fill.fill_properties.Given as goal

abbrev pub invariant-loop-i : goal.invariant-loop-i
invariant-loop-i l = (1008 + l.s.properties.count ≤ length l.initial.graph) × Put 1008 (PropertyWord l.image) l.i l.initial.graph l.graph
