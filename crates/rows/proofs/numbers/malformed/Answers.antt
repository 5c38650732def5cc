use Rattle.rows.proofs.Misuse.{mal_kind, mal_p, mal_q, mal_r, mal_s, mal_counts, mal_not}
use native.Mathlib.Omega.{arith}
use Rattle.rows.proofs.numbers.malformed.Goals as goal

pub returns-then-kind-gt20 : goal.returns-then-kind-gt20
returns-then-kind-gt20 c = search (mal_kind, arith)

pub returns-then-misused : goal.returns-then-misused
returns-then-misused c = search (mal_p, arith)

pub returns-then-misused-2 : goal.returns-then-misused-2
returns-then-misused-2 c = search (mal_q, arith)

pub returns-then-misused-3 : goal.returns-then-misused-3
returns-then-misused-3 c = search (mal_r, arith)

pub returns-then-misused-4 : goal.returns-then-misused-4
returns-then-misused-4 c = search (mal_s, arith)

pub returns-then-kind-eq8 : goal.returns-then-kind-eq8
returns-then-kind-eq8 c = search (mal_counts, arith)

pub returns-else-kind-eq8 : goal.returns-else-kind-eq8
returns-else-kind-eq8 c = search (mal_not, arith)
