-- The digits of a type's number.
use Rattle.std.specs.Prelude.{List, [], ◌∷◌, ℕ, zero, suc, ◌/◌, ◌%◌}

-- n digits to base 8, low one first
unfoldable pub octal : ℕ → ℕ → List ℕ
octal zero x = []
octal (suc n) x = x % 8 ∷ octal n (x / 8)
