-- Sorting by insertion: the result rises strictly and has the same members.
use mathlib.Core.Path.{◌≡◌, refl}
use mathlib.Core.List.Memᴰ
use mathlib.Core.List.{List, [], ◌∷◌}
use mathlib.Core.Bool.{Bool, false, true}
use mathlib.Core.Logic.{◌⊎◌, inl, inr}
use Prim.Native.Nat.{ℕ}
use Rattle.meaning.proofs.Logic.{either}
use Rattle.meaning.proofs.Opened.{opened}
use Rattle.meaning.proofs.Order.{before_total, before_trans}
use Rattle.meaning.specs.Basics.{All, ◌∈◌}
use Rattle.meaning.specs.Listing.{Before, Sorted, before, insert, insert_by, sort}

all_insert : (x r : List ℕ) (l : List (List ℕ)) → Before x r → All (Before x) l → All (Before x) (insert r l)
unfolding opened
all_insert x r [] h a = (h, tt)
all_insert x r (s ∷ l) h a = go (before r s) (before s r) (all_insert x r l h a.1)
  where
    go : (p q : Bool) → All (Before x) (insert r l) → All (Before x) (insert_by p q r s l (insert r l))
    go true q i = (h, a)
    go false true i = (a.0, i)
    go false false i = a

all_later : (x y : List ℕ) (l : List (List ℕ)) → Before x y → All (Before y) l → All (Before x) l
unfolding opened
all_later x y [] h a = tt
all_later x y (z ∷ l) h a = (before_trans x y z h a.0, all_later x y l h a.1)

sorted_insert : (r : List ℕ) (l : List (List ℕ)) → Sorted l → Sorted (insert r l)
unfolding opened
sorted_insert r [] s = (tt, tt)
sorted_insert r (x ∷ l) s = go (before r x) (before x r) refl refl (sorted_insert r l s.1)
  where
    go : (p q : Bool) → before r x ≡ p → before x r ≡ q → Sorted (insert r l) → Sorted (insert_by p q r x l (insert r l))
    go true q e f i = ((e, all_later r x l e s.0), s)
    go false true e f i = (all_insert x r l f s.0, i)
    go false false e f i = s

pub sorted_sort : (l : List (List ℕ)) → Sorted (sort l)
unfolding opened
sorted_sort [] = tt
sorted_sort (r ∷ l) = sorted_insert r (sort l) (sorted_sort l)

insert→ : (r : List ℕ) (l : List (List ℕ)) {x : List ℕ} → x ∈ insert r l → (x ≡ r) ⊎ (x ∈ l)
unfolding opened
insert→ r [] m = Memᴰ.cases_cons m
insert→ r (s ∷ l) {x} m = go (before r s) (before s r) (insert→ r l) m
  where
    go : (p q : Bool) → (x ∈ insert r l → (x ≡ r) ⊎ (x ∈ l)) → x ∈ insert_by p q r s l (insert r l) → (x ≡ r) ⊎ (x ∈ s ∷ l)
    go true q ih m = Memᴰ.cases_cons m
    go false true ih m = either (Memᴰ.cases_cons m) (λ e. inr (Memᴰ.head e)) (λ n. either (ih n) inl (λ k. inr (Memᴰ.tail k)))
    go false false ih m = inr m

insert_self : (r : List ℕ) (l : List (List ℕ)) → r ∈ insert r l
unfolding opened
insert_self r [] = Memᴰ.head refl
insert_self r (s ∷ l) = go (before r s) (before s r) refl refl (insert_self r l)
  where
    go : (p q : Bool) → before r s ≡ p → before s r ≡ q → r ∈ insert r l → r ∈ insert_by p q r s l (insert r l)
    go true q e f i = Memᴰ.head refl
    go false true e f i = Memᴰ.tail i
    go false false e f i = Memᴰ.head (before_total r s e f)

insert_old : (r : List ℕ) (l : List (List ℕ)) {x : List ℕ} → x ∈ l → x ∈ insert r l
unfolding opened
insert_old r [] m = absurd (Memᴰ.not-nil m)
insert_old r (s ∷ l) {x} m = go (before r s) (before s r) (insert_old r l) (Memᴰ.cases_cons m)
  where
    go : (p q : Bool) → (x ∈ l → x ∈ insert r l) → (x ≡ s) ⊎ (x ∈ l) → x ∈ insert_by p q r s l (insert r l)
    go true q ih k = Memᴰ.tail m
    go false true ih (inl e) = Memᴰ.head e
    go false true ih (inr k) = Memᴰ.tail (ih k)
    go false false ih k = m

pub sort→ : (l : List (List ℕ)) {x : List ℕ} → x ∈ sort l → x ∈ l
unfolding opened
sort→ [] m = m
sort→ (r ∷ l) {x} m = either (insert→ r (sort l) m) (λ e. Memᴰ.head e) (λ n. Memᴰ.tail (sort→ l n))

pub sort← : (l : List (List ℕ)) {x : List ℕ} → x ∈ l → x ∈ sort l
unfolding opened
sort← [] m = m
sort← (r ∷ l) {x} m = either (Memᴰ.cases_cons m) (λ e. Memᴰ.cast e (insert_self r (sort l))) (λ n. insert_old r (sort l) (sort← l n))
