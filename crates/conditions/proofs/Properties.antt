-- The ways out of the look-up of a property and of equality.
use mathlib.Core.Path.{◌≡◌, refl, sym, ap, ap₂, ◌∙◌}
use mathlib.Core.Option as math
use mathlib.Core.Option.{none, some}
use Rattle.std.specs.Prelude.{None, Option, Some}
use Prim.Native.Nat.{ℕ}
use lib.Dec.{eqb}
use Rattle.compiled.specs.Elements.{element_of}
use Rattle.compiled.specs.Values.{value_of}
use Rattle.compiled.specs.declared.ids.Element.{Element}
use Rattle.matcher.specs.Conditions.{any_truth_lem, equality_truths, half_known, property_at_lem, the_truth}
use Rattle.meaning.specs.Assignment.{equality}
use Rattle.meaning.specs.Graph.{Graph}
use Rattle.meaning.specs.Truth.{Unknown, decided}
use Rattle.conditions.specs.declared.property.Property.{Property}
use Rattle.conditions.specs.declared.property.Property.TheVariants.{Open, Absent, Found}
use Rattle.conditions.specs.declared.truth.Truths.{Truths}
use Rattle.conditions.specs.Bound.{binding_of}
use Rattle.conditions.specs.Property.{known_of}
use Rattle.conditions.specs.Truths.{truths_of}

module _ (G : Graph) (x : Option Element) (k : ℕ) where
  pub property_open : x ≡ None → known_of Open ≡ property_at_lem G (binding_of x) k
  unfolding property_at_lem
  property_open e = rw e

  module _ (y : Element) (v : Option ℕ) (e : x ≡ Some y) (h : value_of v ≡ G.property (element_of y) k) where
    pub property_found : (w : ℕ) → v ≡ Some w → known_of (Found w) ≡ property_at_lem G (binding_of x) k
    unfolding property_at_lem
    property_found w f = rw e (ap some (ap value_of (sym f) ∙ h))

    pub property_absent : v ≡ None → known_of Absent ≡ property_at_lem G (binding_of x) k
    unfolding property_at_lem
    property_absent f = rw e (ap some (ap value_of (sym f) ∙ h))

module _ (a : Property) (w : ℕ) (r : Truths) where
  pub value_open : a ≡ Open → truths_of r ≡ any_truth_lem → truths_of r ≡ equality_truths (known_of a) (some (some w))
  unfolding equality_truths half_known
  value_open e h = rw e h

  pub value_absent : a ≡ Absent → truths_of r ≡ the_truth Unknown → truths_of r ≡ equality_truths (known_of a) (some (some w))
  unfolding equality_truths equality
  value_absent e h = rw e h

  pub value_found : (v : ℕ) → a ≡ Found v → truths_of r ≡ the_truth (decided (eqb v w)) → truths_of r ≡ equality_truths (known_of a) (some (some w))
  unfolding equality_truths equality
  value_found v e h = rw e h

-- an absent side decides
absent_side : (a : math.Option (math.Option ℕ)) → equality_truths a (some none) ≡ the_truth Unknown
unfolding equality_truths half_known equality
absent_side none = refl
absent_side (some none) = refl
absent_side (some (some w)) = refl

module _ (a b : Property) (r : Truths) where
  pub equal_value : (w : ℕ) → b ≡ Found w → truths_of r ≡ equality_truths (known_of a) (some (some w)) → truths_of r ≡ equality_truths (known_of a) (known_of b)
  equal_value w e h = rw e h

  pub equal_absent : b ≡ Absent → truths_of r ≡ the_truth Unknown → truths_of r ≡ equality_truths (known_of a) (known_of b)
  equal_absent e h = rw e (h ∙ sym (absent_side (known_of a)))

  pub open_absent : b ≡ Open → a ≡ Absent → truths_of r ≡ the_truth Unknown → truths_of r ≡ equality_truths (known_of a) (known_of b)
  unfolding equality_truths half_known
  open_absent e f h = rw (e, f) h

  pub open_other : b ≡ Open → (a ≡ Absent → ⊥) → truths_of r ≡ any_truth_lem → truths_of r ≡ equality_truths (known_of a) (known_of b)
  unfolding equality_truths half_known
  open_other e n h = rw e (go a refl)
    where
      go : (p : Property) → a ≡ p → truths_of r ≡ equality_truths (known_of a) none
      go Open f = rw f h
      go Absent f = absurd (n f)
      go (Found v) f = rw f h

module _ (G : Graph) (x : Option Element) (k : ℕ) (a : Property) (r : Truths) (e : known_of a ≡ property_at_lem G (binding_of x) k) where
  pub constant_is : (w : ℕ) → truths_of r ≡ equality_truths (known_of a) (some (some w)) → truths_of r ≡ equality_truths (property_at_lem G (binding_of x) k) (some (some w))
  constant_is w h = h ∙ ap (λ (z : math.Option (math.Option ℕ)). equality_truths z (some (some w))) e

  pub properties_are : (y : Option Element) (l : ℕ) (b : Property) → known_of b ≡ property_at_lem G (binding_of y) l → truths_of r ≡ equality_truths (known_of a) (known_of b)
      → truths_of r ≡ equality_truths (property_at_lem G (binding_of x) k) (property_at_lem G (binding_of y) l)
  properties_are y l b f h = h ∙ ap₂ equality_truths e f
