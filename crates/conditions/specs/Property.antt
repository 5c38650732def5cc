-- What is known of a property: whether its element is known, and then its value, if it has one.
use Rattle.std.proofs.Math.Option.{Option, none, some}
use Rattle.std.specs.Prelude.{ℕ}
use Rattle.conditions.specs.declared.property.Property.{Property}
use Rattle.conditions.specs.declared.property.Property.TheVariants.{Open, Absent, Found}

abbrev pub known_of : Property → Option (Option ℕ)
known_of Open = none
known_of Absent = some none
known_of (Found w) = some (some w)
