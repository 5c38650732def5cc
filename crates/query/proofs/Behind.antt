-- A loop over the parts: what is said of all of them is what is said of those still to come.
use mathlib.Core.Path.{◌∙◌, ◌≡◌, ap, refl, sym}
use mathlib.Core.List.{List, []}
use Prim.Native.Nat.{ℕ, suc, ◌+◌, ◌<◌, ◌≤◌}
use native.Mathlib.Numerals.{add-one}
use native.Mathlib.Omega.{arith}
use lib.ListN.{drop, drop_of_length-le, length}
use Rattle.meaning.specs.QueryWords.{Part, parts_of}
use Rattle.query.specs.Parts.{PartsCounted}

-- what f says of the parts from i on is what it says of those from j on
pub record Behind {A : Type 0} (f : List Part → A) (query : List ℕ) (i j : ℕ) : Type 0 where
  pub upto : j ≤ length (parts_of query)
  pub is : f (drop i (parts_of query)) ≡ f (drop j (parts_of query))

module _ {A : Type 0} (f : List Part → A) (query : List ℕ) (i : ℕ) where
  pub behind_none : i ≤ length (parts_of query) → Behind f query i i
  behind_none h = record { upto = h; is = refl }

  module _ (j n : ℕ) (b : Behind f query i j) (c : PartsCounted query n) where
    pub behind_more : j < n → f (drop j (parts_of query)) ≡ f (drop (suc j) (parts_of query)) → Behind f query i (j + 1)
    behind_more h e = record { upto = omega (arith, c.is); is = b.is ∙ e ∙ ap (λ (k : ℕ). f (drop k (parts_of query))) (sym (add-one j)) }

    pub behind_all : n ≤ j → f (drop i (parts_of query)) ≡ f []
    behind_all h = b.is ∙ ap f (drop_of_length-le (parts_of query) {i = j} (omega (arith, c.is)))
