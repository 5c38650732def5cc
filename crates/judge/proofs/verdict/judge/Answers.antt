-- `judge::judge` meets its contract. Assumes nothing.
use native.Mathlib.Omega.{arith}
use Rattle.judge.proofs.VerdictWays.{cut_off, too_far, too_few, too_many}
use Rattle.judge.proofs.verdict.judge.Goals as goal

pub returns-then-n-lt2 : goal.returns-then-n-lt2
returns-then-n-lt2 c = search (too_few, arith)

pub returns-then-n-gt-WORK : goal.returns-then-n-gt-WORK
returns-then-n-gt-WORK c = search (too_many, arith)

pub returns-then-last-gt200 : goal.returns-then-last-gt200
returns-then-last-gt200 c = search (too_far, arith)

pub returns-then-n-path_words : goal.returns-then-n-path_words
returns-then-n-path_words c = search (cut_off, arith)
