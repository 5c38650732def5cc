-- `join_judge::path_ends::path_at` meets its contract. Assumes nothing.
use native.Mathlib.Omega.{arith}
use Rattle.join_judge.proofs.PathWays.{paths_there, span_is}
use Rattle.join_judge.proofs.path_ends.path_at.Goals as goal

pub unwrap-requires : goal.unwrap-requires
unwrap-requires c = paths_there c.paths_end-from.ensures c.requires.1 (omega arith)

pub unwrap-requires-2 : goal.unwrap-requires-2
unwrap-requires-2 c = paths_there c.paths_end-to.ensures c.requires.1 (omega arith)

pub returns : goal.returns
returns c = search (span_is, arith)
