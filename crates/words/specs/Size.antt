-- A number read from bytes, with its bound.
use Rattle.std.specs.Prelude.{◌≡◌, List, ℕ, ◌<◌}
use Rattle.meaning.specs.Image.{number}

-- r is the number at a place; the bound lets sums of sizes be added
pub record Size (b : List ℕ) (at r : ℕ) : Type 0 where
  pub is : r ≡ number b at
  pub small : r < 65536
