use Rattle.calls.proofs.CallWays.{call_judged, call_made, image_none}
use native.Mathlib.Omega.{arith}
use borrow.Author.Rules.{rules}
use Rattle.calls.proofs.judging.judge.Goals as goal

pub compile_graph-requires : goal.compile_graph-requires
compile_graph-requires c = (search (image_none, arith), search rules)

pub judge_on-requires : goal.judge_on-requires
judge_on-requires c = (search (call_made, arith), search rules)

pub returns : goal.returns
returns c = search (call_judged, arith)
