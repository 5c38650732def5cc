-- Numbers up to 65535, which stands for any greater one.
use Rattle.std.specs.Prelude.{◌≡◌, ℕ, ◌<◌, ◌≤◌}

-- r is x, or 65535 where x is not below it
pub record Capped (x r : ℕ) : Type 0 where
  pub small : r ≤ 65535
  pub low : r ≤ x
  pub is : r < 65535 → r ≡ x

-- a bound of both
pub record Greater (a b r : ℕ) : Type 0 where
  pub small : r ≤ 65535
  pub first : a ≤ r
  pub second : b ≤ r

-- bounded by both
pub record Smaller (a b r : ℕ) : Type 0 where
  pub small : r ≤ 65535
  pub first : r ≤ a
  pub second : r ≤ b
