-- `judge::judge_path` meets its contract. Assumes nothing.
use native.Mathlib.Omega.{arith}
use Rattle.judge.proofs.VerdictWays.{nodes_in, off_graph}
use Rattle.judge.proofs.verdict.judge_path.Goals as goal

pub judge_values-requires : goal.judge_values-requires
judge_values-requires c = search (nodes_in, arith)

pub returns : goal.returns
returns c = search (off_graph, arith)
