use Rattle.std.proofs.lemmas.Result.{err_from_is_err_and}
use Rattle.query.proofs.Behind.{behind_none}
use Rattle.query.proofs.PartWays.{pattern_bad, pattern_fine, patterns_all}
use native.Mathlib.Omega.{arith}
use Rattle.query.proofs.patterns.check_patterns.Goals as goal

pub loop-i-init : goal.loop-i-init
loop-i-init c = search (behind_none, arith)

pub returns-in_err-check : goal.returns-in_err-check
returns-in_err-check c = let p = err_from_is_err_and c.from_residual.result c.from_residual.ensures.1 in rw (p.1, p.2) (search (pattern_bad, arith))

pub loop-i-preserved : goal.loop-i-preserved
loop-i-preserved c = search (pattern_fine, arith)

pub returns : goal.returns
returns c = search (patterns_all, arith)
