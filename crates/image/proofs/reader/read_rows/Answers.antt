-- `image::reader::read_rows` meets its contract. Assumes nothing.
use native.Mathlib.Omega.{arith}
use Rattle.std.proofs.lemmas.Result.{err_from_is_err_and}
use Rattle.image.proofs.Causes.{nodes_refused, edges_refused, labels_refused, by_properties}
use Rattle.image.proofs.reader.read_rows.Goals as goal

pub returns-in_err-read_section : goal.returns-in_err-read_section
returns-in_err-read_section c = let p = err_from_is_err_and c.from_residual.result c.from_residual.ensures.1 in rw (p.1, p.2) (search (nodes_refused, arith))

pub returns-in_err-read_section-2 : goal.returns-in_err-read_section-2
returns-in_err-read_section-2 c = let p = err_from_is_err_and c.from_residual-in_err-read_section-2.result c.from_residual-in_err-read_section-2.ensures.1 in rw (p.1, p.2) (search (edges_refused, arith))

pub returns-in_err-read_section-3 : goal.returns-in_err-read_section-3
returns-in_err-read_section-3 c = let p = err_from_is_err_and c.from_residual-in_err-read_section-3.result c.from_residual-in_err-read_section-3.ensures.1 in rw (p.1, p.2) (search (labels_refused, arith))

pub returns : goal.returns
returns c = search (by_properties, arith)
