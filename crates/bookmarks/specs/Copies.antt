-- The bookmark's words as the beginning of a record.
use Rattle.std.specs.Prelude.{◌≡◌, List, ◌≤◌, ℕ, length, take}

-- the first r words of rec are the bookmark's, as many as it has or as there is room for
pub record Copied (bookmark rec : List ℕ) (r : ℕ) : Type 0 where
  pub is : take r rec ≡ take (length rec) bookmark
  pub room : r ≤ length rec
  pub low : (k : ℕ) → k ≤ length bookmark → k ≤ length rec → k ≤ r
