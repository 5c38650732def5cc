-- `judge::matches` meets its contract. Assumes nothing.
use native.Mathlib.Omega.{arith}
use Rattle.judge.proofs.MatchWays.{match_ends, match_no, row_few}
use Rattle.plan.proofs.TableSize.{root_some}
use Rattle.judge.proofs.matched.matches.Goals as goal

pub overflow_sub-row : goal.overflow_sub-row
overflow_sub-row c = search (root_some, arith)

pub known_slots-slots-requires : goal.known_slots-slots-requires
known_slots-slots-requires c = search (row_few, arith)

pub returns-then-slots-known : goal.returns-then-slots-known
returns-then-slots-known c = search (match_no, arith)

pub returns : goal.returns
returns c = search (match_ends, arith)
