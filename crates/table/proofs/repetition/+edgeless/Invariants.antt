use Rattle.table.proofs.repetition.+edgeless.Given as goal

abbrev pub decreases-edgeless : goal.decreases-edgeless
decreases-edgeless l = l.row
