use Prim.Native.Nat.{◌*◌}
use Rattle.bits.specs.Sets.{set_of}
use Rattle.bits.proofs.Search.{Seeking}
use Rattle.bits.proofs.Set.member_in.Given as goal

abbrev pub invariant-loop-i : goal.invariant-loop-i
invariant-loop-i l = Seeking (set_of l.self.w) (64 * l.n) (64 * l.i)
