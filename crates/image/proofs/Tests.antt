-- A test of numbers and its opposite.
use mathlib.Core.Path.{◌≡◌, refl}
use mathlib.Core.Bool.{Bool, true, false, not}
use Prim.Native.Nat.{ℕ}
use lib.Dec.{leb, ltb}
use borrow.Author.Tests.{le-ltb, lt-ltb, leb-true, leb-false}

-- at least as large is not less
pub not_less : (x y : ℕ) → leb x y ≡ not (ltb y x)
not_less x y = go (leb x y) refl
  where
    go : (c : Bool) → leb x y ≡ c → c ≡ not (ltb y x)
    go true e = rw (le-ltb y x (leb-true x y e))
    go false e = rw (lt-ltb y x (leb-false x y e))
