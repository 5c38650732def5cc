-- The judge says yes just to the records of the full listing: where nothing fixed is refused, to the records of the answers.
use mathlib.Core.Path.{◌≡◌, ap}
use mathlib.Core.List.Memᴰ
use mathlib.Core.List.{List, [], ◌∷◌}
use mathlib.Core.Option.{none}
use mathlib.Core.Bool.{Bool, ◌&&◌, not, true}
use mathlib.Core.Logic.{◌↔◌}
use Prim.Native.Nat.{ℕ}
use Rattle.meaning.proofs.Granted.{members}
use Rattle.meaning.proofs.Logic.{and_l, and_r, either, is_false, no_false, not_true, or_cases, or_l, or_r}
use Rattle.meaning.proofs.Opened.{opened}
use Rattle.meaning.proofs.Order.{before_irrefl, before_total}
use Rattle.meaning.specs.Answer.{restrictor_of}
use Rattle.meaning.specs.Basics.{◌∈◌}
use Rattle.meaning.specs.FullListing.{fixed_fault, full_listing, is_one_of, judge}
use Rattle.meaning.specs.Image.{graph_of}
use Rattle.meaning.specs.Listing.{Listed, before}
use Rattle.meaning.specs.Record.{Record}
use Rattle.meaning.specs.Table.{pattern_of}

pub one_of→ : (r : Record) (l : List Record) → is_one_of r l ≡ true → r ∈ l
unfolding opened
one_of→ r [] e = no_false e
one_of→ r (s ∷ l) e = either (or_cases (not (before r s) && not (before s r)) (is_one_of r l) e)
    (λ h. Memᴰ.head (before_total r s (not_true (before r s) (and_l (not (before r s)) (not (before s r)) h)) (not_true (before s r) (and_r (not (before r s)) (not (before s r)) h))))
    (λ h. Memᴰ.tail (one_of→ r l h))

neither : (r : Record) → (not (before r r) && not (before r r)) ≡ true
unfolding opened
neither r = ap (λ (b : Bool). not b && not b) (is_false (before r r) (before_irrefl r))

pub one_of← : (r : Record) {l : List Record} → r ∈ l → is_one_of r l ≡ true
unfolding opened
one_of← r (Memᴰ.head {x = s} {xs = l} e) = or_l (not (before r s) && not (before s r)) (is_one_of r l) (rw e (neither s))
one_of← r (Memᴰ.tail {x = s} {xs = l} m) = or_r (not (before r s) && not (before s r)) (is_one_of r l) (one_of← r m)

pub judged : (image pattern : List ℕ) (n : ℕ) (r : Record) → (judge image pattern n r ≡ true) ↔ (r ∈ full_listing image pattern n)
unfolding opened
judged image pattern n r = (one_of→ r (full_listing image pattern n), one_of← r)

pub judged_answer : (image pattern : List ℕ) (n : ℕ) → fixed_fault image pattern n ≡ none → (r : Record) → (judge image pattern n r ≡ true) ↔ Listed (graph_of image) (restrictor_of n) (pattern_of pattern) r
unfolding opened
judged_answer image pattern n ok r = ((λ e. (members image pattern n ok r).0 ((judged image pattern n r).0 e)), (λ h. (judged image pattern n r).1 ((members image pattern n ok r).1 h)))
