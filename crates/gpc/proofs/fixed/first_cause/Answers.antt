use Rattle.std.proofs.lemmas.Result.{err_from_is_err_and}
use Rattle.gpc.proofs.Causes.{image_refused, laid_out, nothing_refused, query_refused, restrictor_refused, work_refused}
use native.Mathlib.Omega.{arith}
use Rattle.gpc.proofs.fixed.first_cause.Goals as goal

pub returns-in_err-read : goal.returns-in_err-read
returns-in_err-read c = let p = err_from_is_err_and c.from_residual.result c.from_residual.ensures.1 in rw (p.1, p.2) (search (image_refused, arith))

pub returns-in_err-check : goal.returns-in_err-check
returns-in_err-check c = let p = err_from_is_err_and c.from_residual-in_err-check.result c.from_residual-in_err-check.ensures.1 in rw (p.1, p.2) (search (query_refused, arith))

pub restrictors_fine-requires : goal.restrictors_fine-requires
restrictors_fine-requires c = search (laid_out, arith)

pub returns-then-not-restrictors_fine : goal.returns-then-not-restrictors_fine
returns-then-not-restrictors_fine c = search (restrictor_refused, arith)

pub returns-then-work-lt-WORK : goal.returns-then-work-lt-WORK
returns-then-work-lt-WORK c = search (work_refused, arith)

pub returns : goal.returns
returns c = search (nothing_refused, arith)
