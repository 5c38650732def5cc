-- The answer to a question for a property.
use Rattle.std.proofs.Math.Option as math
use Rattle.std.proofs.Math.Option.{none, some}
use Rattle.std.specs.Prelude.{ℕ, None, Option, Some}

abbrev pub value_of : Option ℕ → math.Option ℕ
value_of (Some v) = some v
value_of None = none
