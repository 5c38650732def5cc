-- `path::written::write_beginning` meets its contract. Assumes nothing.
use mathlib.Core.Path.{◌≡◌}
use native.Mathlib.Omega.{arith}
use lib.ListN.{length}
use borrow.Author.Rules.{rules}
use Rattle.path.proofs.Copied.{copied_path}
use Rattle.path.proofs.written.write_beginning.Goals as goal

pub write_behind-requires : goal.write_behind-requires
write_behind-requires c = let l : length c.args.path.at ≡ 401 = search rules in
    (omega arith, omega arith)

pub returns : goal.returns
returns c = search (copied_path, rules)
