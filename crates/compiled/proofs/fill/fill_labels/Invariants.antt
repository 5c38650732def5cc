use Prim.Native.Nat.{◌+◌, ◌≤◌}
use lib.ListN.{length}
use Rattle.compiled.specs.Copies.{Put, LabelWord}
use Rattle.compiled.proofs.fill.fill_labels.Given as goal

abbrev pub invariant-loop-i : goal.invariant-loop-i
invariant-loop-i l = (208 + l.s.labels.count ≤ length l.initial.graph) × Put 208 (LabelWord l.image) l.i l.initial.graph l.graph
