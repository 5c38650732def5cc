use Rattle.table.proofs.Scanning.{formed_loose, stands_edgeless, stands_deep, typable_untyped, tells_malformed, tells_loose, tells_edgeless, tells_deep, tells_untyped}
use native.Mathlib.Omega.{arith}
use Rattle.table.proofs.lowest.is_faulty.Goals as goal

pub loose-requires : goal.loose-requires
loose-requires c = search (formed_loose, arith)

pub repeats_edgeless-requires : goal.repeats_edgeless-requires
repeats_edgeless-requires c = search (stands_edgeless, arith)

pub too_deep-requires : goal.too_deep-requires
too_deep-requires c = search (stands_deep, arith)

pub untyped-requires : goal.untyped-requires
untyped-requires c = search (typable_untyped, arith)

pub returns-in-Malformed : goal.returns-in-Malformed
returns-in-Malformed c = search (tells_malformed, arith)

pub returns-in-Loose : goal.returns-in-Loose
returns-in-Loose c = search (tells_loose, arith)

pub returns-in-Edgeless : goal.returns-in-Edgeless
returns-in-Edgeless c = search (tells_edgeless, arith)

pub returns-in-TooDeep : goal.returns-in-TooDeep
returns-in-TooDeep c = search (tells_deep, arith)

pub returns-in-Untyped : goal.returns-in-Untyped
returns-in-Untyped c = search (tells_untyped, arith)
