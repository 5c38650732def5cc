use Rattle.meaning.specs.QueryWords.{name_used_lem}
use Rattle.query.proofs.Behind.{Behind}
use Rattle.query.proofs.names.name_used.Given as goal

abbrev pub invariant-loop-j : goal.invariant-loop-j
invariant-loop-j l = Behind (name_used_lem l.name) l.query l.i l.j
