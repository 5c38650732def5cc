-- `judge::keeps_restrictor` meets its contract. Assumes nothing.
use native.Mathlib.Omega.{arith}
use borrow.Author.Rules.{rules}
use Rattle.judge.proofs.AnswerWays.{any_length, first_node, last_node, repeated, shortest_is}
use Rattle.judge.proofs.restricted.keeps_restrictor.Goals as goal

pub returns-then-not-is_shortest : goal.returns-then-not-is_shortest
returns-then-not-is_shortest c = search (any_length, arith)

pub none_shorter-requires : goal.none_shorter-requires
none_shorter-requires c = (search rules, search rules, search rules, search (first_node, arith), search (last_node, arith))

pub returns-then-repeats_nothing : goal.returns-then-repeats_nothing
returns-then-repeats_nothing c = search (shortest_is, arith)

pub returns : goal.returns
returns c = search (repeated, arith)
