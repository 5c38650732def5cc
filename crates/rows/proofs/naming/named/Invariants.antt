use Rattle.rows.proofs.Places.{Counting}
use Rattle.rows.proofs.naming.named.Given as goal

abbrev pub invariant-loop-j : goal.invariant-loop-j
invariant-loop-j l = Counting l.pattern l.i l.n l.j
