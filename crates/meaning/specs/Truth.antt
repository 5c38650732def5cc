-- 02, Q-2: the three truth values of the published GQL standard (003), with the usual tables for not, and, or.
use Rattle.std.specs.Prelude.{Bool, false, true}

pub data Truth : Type 0 where
  True False Unknown : Truth

-- of a test that is decided
unfoldable pub decided : Bool → Truth
decided true = True
decided false = False

unfoldable pub negation : Truth → Truth
negation True = False
negation False = True
negation Unknown = Unknown

-- false, whatever the other side is
unfoldable pub conjunction : Truth → Truth → Truth
conjunction True t = t
conjunction False t = False
conjunction Unknown True = Unknown
conjunction Unknown False = False
conjunction Unknown Unknown = Unknown

-- true, whatever the other side is
unfoldable pub disjunction : Truth → Truth → Truth
disjunction True t = True
disjunction False t = t
disjunction Unknown True = True
disjunction Unknown False = Unknown
disjunction Unknown Unknown = Unknown

-- a match is kept only on true
unfoldable pub is_true : Truth → Bool
is_true True = true
is_true False = false
is_true Unknown = false
