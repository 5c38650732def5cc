use Rattle.words.proofs.Written.{Written}
use Rattle.words.proofs.report.write_numbers.Given as goal

abbrev pub invariant-loop-i : goal.invariant-loop-i
invariant-loop-i l = Written l.number-items l.initial.report l.report l.i
