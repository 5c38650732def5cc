use Rattle.conditions.proofs.evaluate.+condition.Given as goal

abbrev pub decreases-condition : goal.decreases-condition
decreases-condition l = l.row
