-- A cause that does not refuse is none.
use mathlib.Core.Path.{◌∙◌, ◌≡◌, refl, sym}
use mathlib.Core.Option.{none, some}
use mathlib.Core.Bool.{Bool, false}
use Rattle.meaning.proofs.Logic.{no_true}
use Rattle.meaning.specs.Basics.{Cause}
use Rattle.words.specs.Fault.{is_refused}

-- r is whether c refuses
module _ (c : Cause) (r : Bool) (told : r ≡ is_refused c) where
  pub no_cause : r ≡ false → c ≡ none
  no_cause e = go c (sym told ∙ e)
    where
      go : (c : Cause) → is_refused c ≡ false → c ≡ none
      go none e = refl
      go (some x) e = no_true e
