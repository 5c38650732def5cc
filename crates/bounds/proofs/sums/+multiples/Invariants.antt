use Rattle.bounds.proofs.sums.+multiples.Given as goal

abbrev pub decreases-multiples : goal.decreases-multiples
decreases-multiples l = l.n
