-- Ends of values as places. ks are the known words of a record.
use Rattle.std.specs.Prelude.{◌≡◌, List, ◌<◌, ◌≤◌, ℕ, get_or}
use Rattle.matcher.specs.Values.{after_entry, after_value, after_view, iterate, option_bind}
use Rattle.matcher.proofs.Places.{view_at}
use Rattle.meaning.specs.Typing.{Found, Ty}
use Rattle.typecode.specs.Codes.{code_of, ty_code}
use Rattle.records.specs.Places.{Variables, views_of}

-- r is the place after the value of type t at place k; where there is no type, no place
pub record EndsAt (ks : List ℕ) (t k r : ℕ) : Type 0 where
  pub is : (f : Found) → t ≡ code_of f → view_at ks r ≡ after_view f (view_at ks k)
  pub small : r < 65536

-- r is the place after c factors
pub record EndsGroup (ks : List ℕ) (t k c r : ℕ) : Type 0 where
  pub is : (τ : Ty) → t ≡ ty_code τ → view_at ks r ≡ option_bind (view_at ks k) (iterate c (after_entry (after_value τ)))
  pub small : r < 65536

-- r is the place after the value of x
pub record EndsOne (ks types at : List ℕ) (x r : ℕ) : Type 0 where
  pub end : EndsAt ks (get_or types x 0) (get_or at x 0) r

-- the words are the types of the variables
abbrev pub TypesAre : List ℕ → (ℕ → Found) → Type 0
TypesAre types f = (x : ℕ) → 1 ≤ x → x < 9 → get_or types x 0 ≡ code_of (f x)

-- the places to are those after the values at the places at
pub record EndsAll (ks types at to : List ℕ) : Type 0 where
  pub is : (f : ℕ → Found) → TypesAre types f → (mask : ℕ) → Variables mask → views_of ks to mask ≡ (λ x. after_view (f x) (views_of ks at mask x))
