-- A number's two bytes, and what stands past the end.
use mathlib.Core.Path.{◌≡◌}
use mathlib.Core.List.{List}
use Prim.Native.Nat.{ℕ, suc, ◌+◌, ◌*◌, ◌≤◌}
use native.Mathlib.Numerals.{add-one}
use native.Mathlib.Omega.{arith}
use lib.ListN.{length, get_or, get_or-eq_default}
use Rattle.meaning.specs.Image.{number}

pub number_past : (b : List ℕ) (at : ℕ) → length b ≤ at → 0 ≡ number b at
unfolding number
number_past b at h = rw (get_or-eq_default b 0 h, get_or-eq_default b 0 {n = suc at} (omega arith))

-- low and high are what the two calls answered, p and q the bytes that they were passed
pub number_is : (b : List ℕ) (at low high p q : ℕ) → p ≡ get_or b at 0 → low ≡ p → q ≡ get_or b (at + 1) 0 → high ≡ q → low + 256 * high ≡ number b at
unfolding number
number_is b at low high p q x e y f = rw (e, f, x, y, add-one)
