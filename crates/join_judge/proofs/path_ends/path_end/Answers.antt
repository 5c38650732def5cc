-- `join_judge::path_ends::path_end` meets its contract. Assumes nothing.
use native.Mathlib.Omega.{arith}
use Rattle.join_judge.proofs.PathWays.{no_word, path_told, too_many, too_short}
use Rattle.join_judge.proofs.path_ends.path_end.Goals as goal

pub returns-then-words-at : goal.returns-then-words-at
returns-then-words-at c = search (no_word, arith)

pub returns-then-last-gt200 : goal.returns-then-last-gt200
returns-then-last-gt200 c = search (too_many, arith)

pub returns-then-words-end : goal.returns-then-words-end
returns-then-words-end c = search (too_short, arith)

pub returns : goal.returns
returns c = search (path_told, arith)
