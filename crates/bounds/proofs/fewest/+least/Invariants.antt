use Rattle.bounds.proofs.fewest.+least.Given as goal

abbrev pub decreases-least : goal.decreases-least
decreases-least l = l.row
