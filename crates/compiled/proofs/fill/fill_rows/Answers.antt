-- `compiled::fill::fill_rows` meets its contract. Assumes nothing.
use Prim.Native.Nat.{◌≤◌}
use native.Mathlib.Omega.{arith}
use lib.ListN.{length, length-drop, length-take}
use Rattle.table.proofs.AcceptedTable.{accepted_checked}
use Rattle.compiled.proofs.RowWords.{plan_filled}
use Rattle.compiled.proofs.Parts.{accepted_short}
use Rattle.compiled.proofs.fill.fill_rows.Goals as goal

pub fill_variables-requires : goal.fill_variables-requires
fill_variables-requires c = let t = c.args.pattern.now in
    let short : length t ≤ 320 = search (accepted_short, arith) in
    (search (accepted_checked, arith), omega arith)

pub fill_types-requires : goal.fill_types-requires
fill_types-requires c = let t = c.args.pattern.now in
    let short : length t ≤ 320 = search (accepted_short, arith) in
    (search (accepted_checked, arith), simp (length-take, length-drop) (omega arith))

pub returns : goal.returns
returns c = search (plan_filled, arith)
