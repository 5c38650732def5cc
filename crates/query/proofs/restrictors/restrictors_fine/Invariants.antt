use Rattle.meaning.specs.QueryWords.{bad_restrictor}
use Rattle.query.proofs.Behind.{Behind}
use Rattle.query.proofs.restrictors.restrictors_fine.Given as goal

abbrev pub invariant-loop-i : goal.invariant-loop-i
invariant-loop-i l = Behind bad_restrictor l.query 0 l.i
