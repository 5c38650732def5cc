-- 32, part by part.
use Rattle.std.specs.Prelude.{List, [], ◌∷◌, Bool, false, not, ◌&&◌, ◌||◌, eqb}
use Rattle.meaning.specs.QueryWords.{Part, is_name_lem, name_used_lem}

-- the first of these parts has a name that is none of 0 and 9 to 12, or that a later one has too
unfoldable pub bad_first_name : List Part → Bool
bad_first_name [] = false
bad_first_name (a ∷ l) = not (eqb a.name 0) && (not (is_name_lem a.name) || name_used_lem a.name l)
