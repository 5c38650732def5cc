use Rattle.table.proofs.typing.+fits.Given as goal

abbrev pub decreases-fits : goal.decreases-fits
decreases-fits l = l.row
