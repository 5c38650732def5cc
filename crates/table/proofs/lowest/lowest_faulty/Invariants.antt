use lib.ListN.{length}
use Rattle.meaning.specs.Table.{rows_of}
use Rattle.table.specs.Ready.{fault_by}
use Rattle.table.proofs.Scanning.{Scanning}
use Rattle.table.proofs.lowest.lowest_faulty.Given as goal

abbrev pub invariant-loop-i : goal.invariant-loop-i
invariant-loop-i l = Scanning (fault_by l.fault (rows_of l.pattern)) (length (rows_of l.pattern)) l.i
