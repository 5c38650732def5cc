use Rattle.image.proofs.Scanning.{Scanning}
use Rattle.image.proofs.lowest.lowest_bad.Given as goal

abbrev pub invariant-loop-row : goal.invariant-loop-row
invariant-loop-row l = Scanning l.section l.image l.count l.row
