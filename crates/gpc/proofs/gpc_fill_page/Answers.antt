-- `gpc_fill_page` meets its contract. Assumes nothing.
use native.Mathlib.Omega.{arith}
use borrow.Author.Rules.{rules}
use Rattle.std.specs.Prelude.{◌≡◌, Ok}
use Rattle.gpc.proofs.Answering.{on_granted, on_roomy, on_sitting, on_wide, page_answered, page_short, page_stopped}
use Rattle.gpc.proofs.gpc_fill_page.Goals as goal

pub returns-then-is_short : goal.returns-then-is_short
returns-then-is_short c = search (page_short, arith)

pub returns-in-Err : goal.returns-in-Err
returns-in-Err c = search (page_stopped, arith)

pub fill_page-requires : goal.fill_page-requires
fill_page-requires c =
    let begun = c.begin.ensures in
    let on : c.begin.result ≡ Ok tt = search rules in
    (on_granted _ _ _ _ _ _ begun on, on_roomy _ _ _ _ _ _ begun on, on_sitting _ _ c.is_short.ensures c.if-is_short.false, on_wide _ _ _ _ _ _ begun on)

pub returns : goal.returns
returns c = search (page_answered, arith)
