use Rattle.words.proofs.Loops.{Pasted}
use Rattle.words.proofs.lent.copy_at.Given as goal

abbrev pub invariant-loop-i : goal.invariant-loop-i
invariant-loop-i l = Pasted l.at l.from l.initial.to l.to l.i
