-- The rule is a test at each of the table's 84 entries, which antt computes.
use mathlib.Core.Path.{◌≡◌, ap₂, ◌∙◌}
use mathlib.Core.Bool.{Bool}
use mathlib.Core.List.{List, ◌∷◌, []}
use Prim.Native.Nat.{ℕ, ◌+◌, ◌*◌, ◌/◌, ◌%◌}
use native.Mathlib.Omega.{arith}
use lib.Dec.{eqb, eqb→eq}
use borrow.Author.Rules.{rules}
use Rattle.rows.specs.Uses.{use_of_lem, uses_of}
use Rattle.rows.proofs.TableRule.{at}
use Rattle.rows.proofs.uses.use_of.Goals as goal

table : List ℕ
table =
    7 ∷ 7 ∷ 7 ∷ 7 ∷ 1 ∷ 2 ∷ 0 ∷ 0 ∷ 1 ∷ 2 ∷ 0 ∷ 0 ∷ 1 ∷ 2 ∷ 0 ∷ 0 ∷ 1 ∷ 2 ∷ 0 ∷ 0 ∷ 3 ∷ 3 ∷ 0 ∷ 0 ∷ 3 ∷ 3 ∷ 0 ∷ 0 ∷ 3 ∷ 4 ∷ 0 ∷ 0 ∷ 3 ∷ 0 ∷ 6 ∷ 2 ∷ 7 ∷ 7 ∷
    7 ∷ 7 ∷ 7 ∷ 7 ∷ 7 ∷ 7 ∷ 7 ∷ 7 ∷ 7 ∷ 7 ∷ 7 ∷ 7 ∷ 7 ∷ 7 ∷ 7 ∷ 7 ∷ 7 ∷ 7 ∷ 7 ∷ 7 ∷ 7 ∷ 7 ∷ 7 ∷ 7 ∷ 7 ∷ 7 ∷ 5 ∷ 2 ∷ 2 ∷ 0 ∷ 5 ∷ 2 ∷ 5 ∷ 2 ∷ 4 ∷ 4 ∷ 0 ∷ 0 ∷
    4 ∷ 4 ∷ 0 ∷ 0 ∷ 4 ∷ 0 ∷ 0 ∷ 0 ∷ []

right : ℕ → ℕ → Bool
right n x = eqb x (use_of_lem (n / 4) (n % 4))

pub returns : goal.returns
unfolding right use_of_lem uses_of table
returns c = let a = c.args in
    let n : ℕ = a.kind * 4 + a.i in
    let q : n / 4 ≡ a.kind = omega arith in
    let r : n % 4 ≡ a.i = omega arith in
    eqb→eq _ _ (at right table tt n (search rules)) ∙ ap₂ use_of_lem q r
