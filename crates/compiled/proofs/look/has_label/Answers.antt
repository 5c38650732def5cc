use Rattle.compiled.proofs.Reading.{labels_risen}
use Rattle.compiled.proofs.Finding.{label_is}
use native.Mathlib.Omega.{arith}
use Rattle.compiled.proofs.look.has_label.Goals as goal

pub find-requires : goal.find-requires
find-requires c = search (labels_risen, arith)

pub returns : goal.returns
returns c = search (label_is, arith)
