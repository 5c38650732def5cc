-- `words::refusal::report_outcome` meets its contract. Assumes nothing.
use Rattle.meaning.specs.Report.{cause_bytes}
use Rattle.words.proofs.refusal.report_outcome.Goals as goal

pub returns-in-Ok : goal.returns-in-Ok
unfolding cause_bytes
returns-in-Ok g c = rw c.in-Ok.is c.write_report.ensures

pub returns-in-Err : goal.returns-in-Err
unfolding cause_bytes
returns-in-Err g c = rw (c.in-Err.is, ← c.number.ensures, ← c.row.ensures) c.write_report-in-Err.ensures
