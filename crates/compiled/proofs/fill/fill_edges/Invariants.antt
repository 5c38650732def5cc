use Prim.Native.Nat.{◌+◌, ◌≤◌}
use lib.ListN.{length}
use Rattle.compiled.specs.Copies.{Put, EdgeWord}
use Rattle.compiled.proofs.fill.fill_edges.Given as goal

abbrev pub invariant-loop-i : goal.invariant-loop-i
invariant-loop-i l = (8 + l.s.edges.count ≤ length l.initial.graph) × Put 8 (EdgeWord l.image) l.i l.initial.graph l.graph
