-- The numbers of edges of a row's matches, in any graph.
use Rattle.std.specs.Prelude.{◌≡◌, List, true, ℕ, ◌*◌, ◌<◌, ◌≤◌}
use Rattle.bits.specs.Sets.{set_of}
use Rattle.meaning.specs.Assignment.{Assignment}
use Rattle.meaning.specs.Graph.{Graph, Walk, len}
use Rattle.meaning.specs.Meaning.{Meaning}
use Rattle.table.specs.Variables.{pattern_at_lem}

-- no match has more than r edges, unless r is 65535
pub record Most (pattern : List ℕ) (row r : ℕ) : Type 0 where
  pub small : r ≤ 65535
  pub is : r < 65535 → (G : Graph) (p : Walk) (μ : Assignment) → Meaning G (pattern_at_lem pattern row) p μ → len p ≤ r

-- a bound of n times a, where 65535 is none
pub record MostRepeated (n a r : ℕ) : Type 0 where
  pub small : r ≤ 65535
  pub count : r < 65535 → n < 65535
  pub each : r < 65535 → a < 65535
  pub is : r < 65535 → n * a ≤ r

-- no match has fewer than r edges
pub record Fewest (pattern : List ℕ) (row r : ℕ) : Type 0 where
  pub small : r ≤ 65535
  pub is : (G : Graph) (p : Walk) (μ : Assignment) → Meaning G (pattern_at_lem pattern row) p μ → r ≤ len p

-- no match has a number of edges below 256 that is not in the set
pub record Possible (pattern : List ℕ) (row : ℕ) (w : List ℕ) : Type 0 where
  pub is : (G : Graph) (p : Walk) (μ : Assignment) → Meaning G (pattern_at_lem pattern row) p μ → len p < 256 → set_of w (len p) ≡ true
