use Rattle.meaning.specs.QueryWords.{parts_fault}
use Rattle.query.proofs.Behind.{Behind}
use Rattle.query.proofs.patterns.check_patterns.Given as goal

abbrev pub invariant-loop-i : goal.invariant-loop-i
invariant-loop-i l = Behind parts_fault l.query 0 l.i
