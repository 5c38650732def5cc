-- `judge::judge_values` meets its contract. Assumes nothing.
use native.Mathlib.Omega.{arith}
use Rattle.judge.proofs.VerdictWays.{matched, no_match, prepared_is}
use Rattle.judge.proofs.verdict.judge_values.Goals as goal

pub matches-requires : goal.matches-requires
matches-requires c = search (prepared_is, arith)

pub returns-then-matches : goal.returns-then-matches
returns-then-matches c = search (matched, arith)

pub returns : goal.returns
returns c = search (no_match, arith)
