use Rattle.judge.proofs.RepeatWays.{Unrepeated}
use Rattle.judge.proofs.repeats.repeats_nothing.Given as goal

abbrev pub invariant-loop-i : goal.invariant-loop-i
invariant-loop-i l = Unrepeated l.rec l.last l.base l.used l.i
