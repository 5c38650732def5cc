use Rattle.bounds.proofs.greatest.+most.Given as goal

abbrev pub decreases-most : goal.decreases-most
decreases-most l = l.row
