-- `printing::pages::print_pages` meets its contract. Assumes nothing.
use Rattle.printing.specs.Run.{Shown, SoFar}
use Rattle.printing.proofs.Runs.{first_shown, first_used, next_less, next_shown, next_used, shown_used, whole}
use Rattle.std.proofs.Common.{ℕ, List, Result, Ok, Err, OnErr, arith, rules, refl}
use Rattle.printing.proofs.pages.print_pages.Goals as goal

-- an error leaves what was shown
so_far : {T E : Type 0} (r : Result T E) (image query page report : List ℕ) (count : ℕ) → Shown image query page report count → OnErr r (SoFar image query page report)
so_far (Ok x) image query page report count s = tt
so_far (Err e) image query page report count s = record { count = count; shown = s }

pub print_page-requires : goal.print_page-requires
print_page-requires g c = search (first_used, arith)

pub returns-in_err-print_page-clause-err : goal.returns-in_err-print_page-clause-err
returns-in_err-print_page-clause-err g c = so_far c.from_residual.result _ _ _ _ _ (first_shown _ _ _ _ _ c.requires.1 refl)

pub loop-page-init : goal.loop-page-init
loop-page-init g c = (search (first_shown, arith), search rules)

pub fill_next-requires : goal.fill_next-requires
fill_next-requires g c = search (shown_used, arith)

pub print_page-requires-in-loop-page : goal.print_page-requires-in-loop-page
print_page-requires-in-loop-page g c = search (next_used, c.loop-page.invariant.0, c.loop-page.invariant.1, c.fill_next.ensures, arith)

pub returns-in_err-print_page-2-clause-err : goal.returns-in_err-print_page-2-clause-err
returns-in_err-print_page-2-clause-err g c =
    so_far c.from_residual-in_err-print_page-2.result _ _ _ _ _ (next_shown _ _ _ _ _ c.loop-page.invariant.0 _ c.number_of.ensures (search rules) _ _ _ c.loop-page.invariant.1 c.fill_next.ensures _ _ refl refl)

pub loop-page-smaller : goal.loop-page-smaller
loop-page-smaller g c = search (next_less, arith)

pub loop-page-preserved : goal.loop-page-preserved
loop-page-preserved g c =
    (next_shown _ _ _ _ _ c.loop-page.invariant.0 _ c.number_of.ensures (search rules) _ _ _ c.loop-page.invariant.1 c.fill_next.ensures _ _ c.number_of-count-in-loop-page.ensures refl, search rules)

pub returns : goal.returns
returns g c = search (whole, arith)
