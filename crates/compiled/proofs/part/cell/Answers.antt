use Rattle.compiled.proofs.Parts.{cell_is, cell_small}
use native.Mathlib.Omega.{arith}
use Rattle.compiled.proofs.part.cell.Goals as goal

pub returns : goal.returns
returns c = search (cell_is, cell_small, arith)
