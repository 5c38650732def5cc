use Rattle.std.proofs.lemmas.Result.{err_from_is_err_and}
use Rattle.query.proofs.CheckWays.{laid_out, layout_refused, name_refused, nothing_refused, parts_fine, pattern_refused, type_refused}
use native.Mathlib.Omega.{arith}
use Rattle.query.proofs.causes.check.Goals as goal

pub returns-then-bad_layout : goal.returns-then-bad_layout
returns-then-bad_layout c = search (layout_refused, arith)

pub bad_names-requires : goal.bad_names-requires
bad_names-requires c = search (laid_out, arith)

pub returns-then-bad_names : goal.returns-then-bad_names
returns-then-bad_names c = search (name_refused, arith)

pub check_patterns-requires : goal.check_patterns-requires
check_patterns-requires c = search (laid_out, arith)

pub returns-in_err-check_patterns : goal.returns-in_err-check_patterns
returns-in_err-check_patterns c = let p = err_from_is_err_and c.from_residual.result c.from_residual.ensures.1 in rw (p.1, p.2) (search (pattern_refused, arith))

pub untyped-requires : goal.untyped-requires
untyped-requires c = search (parts_fine, arith)

pub returns-then-untyped : goal.returns-then-untyped
returns-then-untyped c = search (type_refused, arith)

pub returns : goal.returns
returns c = search (nothing_refused, arith)
