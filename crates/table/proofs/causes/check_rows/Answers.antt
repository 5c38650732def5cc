use Rattle.std.proofs.lemmas.Result.{err_from_is_err_and}
use Rattle.table.proofs.FirstFault.{malformed_row, loose_row, edgeless_row, deep_row, by_types, all_formed, all_shallow}
use native.Mathlib.Omega.{arith}
use borrow.Author.Rules.{rules}
use Rattle.table.proofs.causes.check_rows.Goals as goal

pub returns-in_err-check_fault : goal.returns-in_err-check_fault
returns-in_err-check_fault c = let p = err_from_is_err_and c.from_residual.result c.from_residual.ensures.1 in rw (p.1, p.2) (search (malformed_row, arith))

pub check_fault-requires-2 : goal.check_fault-requires-2
check_fault-requires-2 c = search (all_formed, rules)

pub returns-in_err-check_fault-2 : goal.returns-in_err-check_fault-2
returns-in_err-check_fault-2 c = let p = err_from_is_err_and c.from_residual-in_err-check_fault-2.result c.from_residual-in_err-check_fault-2.ensures.1 in rw (p.1, p.2) (search (loose_row, arith))

pub check_fault-requires-3 : goal.check_fault-requires-3
check_fault-requires-3 c = search (all_formed, rules)

pub returns-in_err-check_fault-3 : goal.returns-in_err-check_fault-3
returns-in_err-check_fault-3 c = let p = err_from_is_err_and c.from_residual-in_err-check_fault-3.result c.from_residual-in_err-check_fault-3.ensures.1 in rw (p.1, p.2) (search (edgeless_row, arith))

pub check_fault-requires-4 : goal.check_fault-requires-4
check_fault-requires-4 c = search (all_formed, rules)

pub returns-in_err-check_fault-4 : goal.returns-in_err-check_fault-4
returns-in_err-check_fault-4 c = let p = err_from_is_err_and c.from_residual-in_err-check_fault-4.result c.from_residual-in_err-check_fault-4.ensures.1 in rw (p.1, p.2) (search (deep_row, arith))

pub check_fault-requires-5 : goal.check_fault-requires-5
check_fault-requires-5 c = search (all_formed, all_shallow, rules)

pub returns : goal.returns
returns c = search (by_types, arith)
