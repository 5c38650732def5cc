-- The lengths that no record of the base has, whatever the lawful graph; and the lengths that a plan keeps.
use Rattle.std.specs.Prelude.{◌≡◌, List, [], ◌∷◌, false, ℕ, ◌<◌}
use Rattle.bits.specs.Sets.{set_of}
use Rattle.compiled.specs.Derived.{watched_in}
use Rattle.compiled.specs.Parts.{restrictor_in, table_in}
use Rattle.compiled.specs.Sound.{Lawful}
use Rattle.plan.specs.Ready.{Ready}
use Rattle.promises.specs.Goals.{base_listing}
use Rattle.search.specs.Classes.{Dead}

-- no record has a number of edges below 256 that is not in the set
pub record OnlyLengths (plan w : List ℕ) : Type 0 where
  pub dead : (graph : List ℕ) → Lawful graph → (n : ℕ) → n < 256 → set_of w n ≡ false → Dead (n ∷ []) (base_listing graph plan)

-- the plan keeps a set of lengths that a match can have, with the table and the restrictor as they were and all else that is derived
pub record LengthsFilled (plan₀ plan : List ℕ) : Type 0 where
  pub ready : (graph : List ℕ) → Ready graph plan₀ → Ready graph plan
  pub unwatched : watched_in plan ≡ 0
  pub table_is : table_in plan ≡ table_in plan₀
  pub restrictor_is : restrictor_in plan ≡ restrictor_in plan₀
