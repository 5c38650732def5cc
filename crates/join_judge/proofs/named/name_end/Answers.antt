-- `join_judge::named::name_end` meets its contract. Assumes nothing.
use native.Mathlib.Omega.{arith}
use Rattle.join_judge.proofs.NameWays.{name_differs, name_stands}
use Rattle.join_judge.proofs.named.name_end.Goals as goal

pub returns-then-starts_with : goal.returns-then-starts_with
returns-then-starts_with c = name_stands c.path_at-s.ensures c.args.at c.starts_with.result c.starts_with.ensures.value c.if-starts_with.true (omega arith)

pub returns : goal.returns
returns c = name_differs c.path_at-s.ensures c.args.at c.starts_with.result c.starts_with.ensures.value c.if-starts_with.false
