use Rattle.compiled.proofs.Copying.{edge_word_is}
use native.Mathlib.Omega.{arith}
use Rattle.compiled.proofs.copy.edge_word.Goals as goal

pub returns : goal.returns
returns c = search (edge_word_is, arith)
