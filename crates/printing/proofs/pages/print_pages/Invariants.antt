use Rattle.printing.specs.Run.{Shown, TypesOf}
use Rattle.printing.proofs.Runs.{to_come}
use Rattle.printing.proofs.pages.print_pages.Given as goal

abbrev pub invariant-loop-page : goal.invariant-loop-page
invariant-loop-page g l = Shown l.image l.query l.page l.report l.count × TypesOf l.query l.types

abbrev pub decreases-loop-page : goal.decreases-loop-page
decreases-loop-page g l = to_come l.image l.query l.page l.report
