-- The ways out of the connectives.
use mathlib.Core.Path.{◌≡◌, ap, ap₂, refl, ◌∙◌}
use mathlib.Core.Bool.{Bool, ◌&&◌, ◌||◌, false, not, true}
use Rattle.matcher.specs.Conditions.{and_truths, not_truths, or_truths, the_truth}
use Rattle.matcher.specs.Conditions.{Truths as Possible}
use Rattle.meaning.specs.Truth.{decided}
use Rattle.meaning.proofs.Logic.{no_false}
use Rattle.conditions.specs.declared.truth.Truths.{Truths}
use Rattle.conditions.specs.Truths.{truths_of}

pub decided_is : (b : Bool) → truths_of (record { yes = b; no = not b; neither = false }) ≡ the_truth (decided b)
unfolding the_truth decided
decided_is true = refl
decided_is false = refl

module _ (a b : Truths) where
  pub or_is : (x y z r : Truths) → truths_of x ≡ not_truths (truths_of a) → truths_of y ≡ not_truths (truths_of b) → truths_of z ≡ and_truths (truths_of x) (truths_of y) → truths_of r ≡ not_truths (truths_of z)
      → truths_of r ≡ or_truths (truths_of a) (truths_of b)
  unfolding or_truths
  or_is x y z r e f g h = h ∙ ap not_truths (g ∙ ap₂ and_truths e f)

-- ------------------------------------------------------------------ a right-hand part that decides (02, Q-4)
none_with : (p : Bool) → (p && false) ≡ false
none_with true = refl
none_with false = refl

one_with : (p : Bool) → (p || true) ≡ true
one_with true = refl
one_with false = refl

module _ (a : Possible) where
  false_with : (x y z : Bool) → (y && not (x || z)) ≡ true → and_truths a (record { yes = x; no = y; neither = z }) ≡ record { yes = x; no = y; neither = z }
  unfolding and_truths
  false_with x false z e = no_false e
  false_with true true z e = no_false e
  false_with false true true e = no_false e
  false_with false true false e = rw (none_with a.yes, one_with a.no, none_with a.neither) refl

  -- false and nothing else
  pub false_decides : (b : Possible) → (b.no && not (b.yes || b.neither)) ≡ true → and_truths a b ≡ b
  false_decides b e = false_with b.yes b.no b.neither e

-- true and nothing else
pub true_decides : (a b : Possible) → (b.yes && not (b.no || b.neither)) ≡ true → or_truths a b ≡ b
unfolding or_truths not_truths
true_decides a b e = ap not_truths (false_decides (not_truths a) (not_truths b) e)
