-- `calls::compiling::complete` meets its contract. Assumes nothing.
use Rattle.calls.proofs.CompileWays.{completed, lengths_ready}
use native.Mathlib.Omega.{arith}
use borrow.Author.Rules.{rules}
use Rattle.calls.proofs.compiling.complete.Goals as goal

pub fill_onward-requires : goal.fill_onward-requires
fill_onward-requires c = (search (lengths_ready, arith), search rules, search rules)

pub returns : goal.returns
returns c = search (completed, arith)
