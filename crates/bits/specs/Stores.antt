-- Sets in a list of words, four words for each.
use Rattle.std.specs.Prelude.{◌≡◌, List, [], ◌∷◌, ◌*◌, ◌+◌, ℕ, get_or}

-- the four words of the set k
unfoldable pub set_at : List ℕ → ℕ → List ℕ
set_at g k = get_or g (4 * k) 0 ∷ get_or g (4 * k + 1) 0 ∷ get_or g (4 * k + 2) 0 ∷ get_or g (4 * k + 3) 0 ∷ []

-- the words w are put there, and nothing else
pub record Stored (k : ℕ) (w g₀ g : List ℕ) : Type 0 where
  pub here : set_at g k ≡ w
  pub other : (j : ℕ) → (j ≡ k → ⊥) → set_at g j ≡ set_at g₀ j
