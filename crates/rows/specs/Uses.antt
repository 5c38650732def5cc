-- How each of p, q, r, s of a kind is used: 0 not listed, 1 a variable or 0, 2 any number, 3 a lower pattern row, 4 a lower condition row,
-- 5 a variable, 6 a least count, 7 of a kind that is not listed.
use Rattle.std.specs.Prelude.{◌≡◌, List, [], ◌∷◌, Bool, true, false, not, ℕ, ◌<◌, eqb, leb, get_or, if◌then◌else◌}
use Rattle.meaning.specs.Table.{Row, pattern_row_lem, condition_row, is_variable_lem, fault12}

unfoldable pub uses_of : ℕ → List ℕ
uses_of k =
    if eqb k 1 then 1 ∷ 2 ∷ 0 ∷ 0 ∷ [] else
    if eqb k 2 then 1 ∷ 2 ∷ 0 ∷ 0 ∷ [] else
    if eqb k 3 then 1 ∷ 2 ∷ 0 ∷ 0 ∷ [] else
    if eqb k 4 then 1 ∷ 2 ∷ 0 ∷ 0 ∷ [] else
    if eqb k 5 then 3 ∷ 3 ∷ 0 ∷ 0 ∷ [] else
    if eqb k 6 then 3 ∷ 3 ∷ 0 ∷ 0 ∷ [] else
    if eqb k 7 then 3 ∷ 4 ∷ 0 ∷ 0 ∷ [] else
    if eqb k 8 then 3 ∷ 0 ∷ 6 ∷ 2 ∷ [] else
    if eqb k 16 then 5 ∷ 2 ∷ 2 ∷ 0 ∷ [] else
    if eqb k 17 then 5 ∷ 2 ∷ 5 ∷ 2 ∷ [] else
    if eqb k 18 then 4 ∷ 4 ∷ 0 ∷ 0 ∷ [] else
    if eqb k 19 then 4 ∷ 4 ∷ 0 ∷ 0 ∷ [] else
    if eqb k 20 then 4 ∷ 0 ∷ 0 ∷ 0 ∷ [] else 7 ∷ 7 ∷ 7 ∷ 7 ∷ []

unfoldable pub use_of_lem : ℕ → ℕ → ℕ
use_of_lem k i = get_or (uses_of k) i 7

-- number n of row i is what the use allows
unfoldable pub allowed : List Row → ℕ → ℕ → ℕ → Bool
allowed rows i u n =
    if eqb u 0 then eqb n 0 else
    if eqb u 1 then leb n 8 else
    if eqb u 2 then true else
    if eqb u 3 then pattern_row_lem rows i n else
    if eqb u 4 then condition_row rows i n else
    if eqb u 5 then is_variable_lem n else
    if eqb u 6 then leb n 65534 else false

-- r tells whether number n of row i is outside its use, where no lower row is malformed
pub record Misused (rows : List Row) (i u n : ℕ) (r : Bool) : Type 0 where
  pub is : ((j : ℕ) → j < i → fault12 rows j ≡ false) → r ≡ not (allowed rows i u n)
