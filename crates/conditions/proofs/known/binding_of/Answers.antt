-- `conditions::known::binding_of` meets its contract. Assumes nothing.
use Rattle.conditions.proofs.KnownWords.{word_edge, word_node, word_other}
use native.Mathlib.Omega.{arith}
use Rattle.conditions.proofs.known.binding_of.Goals as goal

pub returns-in-1 : goal.returns-in-1
returns-in-1 c = search (word_node, arith)

pub returns-in-2 : goal.returns-in-2
returns-in-2 c = search (word_edge, arith)

pub returns-in_default : goal.returns-in_default
returns-in_default c = search (word_other, arith)
