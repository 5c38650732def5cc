use Rattle.table.proofs.repetition.+depth.Given as goal

abbrev pub decreases-depth : goal.decreases-depth
decreases-depth l = l.row
