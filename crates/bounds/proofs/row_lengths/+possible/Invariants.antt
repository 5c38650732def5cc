use Rattle.bounds.proofs.row_lengths.+possible.Given as goal

abbrev pub decreases-possible : goal.decreases-possible
decreases-possible l = l.row
