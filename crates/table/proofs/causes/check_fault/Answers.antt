use Rattle.table.proofs.FirstFault.{fault_found, no_fault}
use native.Mathlib.Omega.{arith}
use Rattle.table.proofs.causes.check_fault.Goals as goal

pub returns-in-Some : goal.returns-in-Some
returns-in-Some c = search (fault_found, arith)

pub returns-in-None : goal.returns-in-None
returns-in-None c = search (no_fault, arith)
