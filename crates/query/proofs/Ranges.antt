-- A number in a range, or below it, or above it.
use mathlib.Core.Path.{◌≡◌, refl}
use mathlib.Core.Bool.{false, true, ◌&&◌}
use Prim.Native.Nat.{ℕ, suc, ◌<◌, ◌≤◌}
use native.Mathlib.Omega.{arith}
use lib.Dec.{leb}
use borrow.Author.Tests.{le-leb, leb-true, lt-leb}

module _ (low high n : ℕ) where
  pub in_range : low ≤ n → n < suc high → true ≡ (leb low n && leb n high)
  in_range g h = rw (le-leb low n g, le-leb n high (omega arith)) refl

  pub too_low : n < low → false ≡ (leb low n && leb n high)
  too_low h = rw (lt-leb low n h) refl

  pub too_high : leb low high ≡ true → high < n → false ≡ (leb low n && leb n high)
  too_high g h = rw (le-leb low n (omega (arith, leb-true low high g)), lt-leb n high h) refl
