use Rattle.query.proofs.Behind.{Behind}
use Rattle.meaning.specs.QueryWords.{bad_names_lem}
use Rattle.query.proofs.names.bad_names.Given as goal

abbrev pub invariant-loop-i : goal.invariant-loop-i
invariant-loop-i l = Behind bad_names_lem l.query 0 l.i
