use native.Mathlib.Omega.{arith}
use Rattle.gpc.proofs.Answering.{verdict_reported}
use Rattle.gpc.proofs.report_verdict.Goals as goal

pub returns : goal.returns
returns c = search (verdict_reported, arith)
