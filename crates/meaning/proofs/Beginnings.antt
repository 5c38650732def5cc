-- The records after the last one of a beginning are the rest: for a strictly rising list.
use mathlib.Core.Path.{◌≡◌, ap, refl}
use mathlib.Core.List.{List, [], ◌++◌, ◌∷◌, append_assoc}
use mathlib.Core.Logic.{◌⊎◌, inl, inr}
use Rattle.meaning.proofs.Logic.{is_false}
use Rattle.meaning.proofs.Opened.{opened}
use Rattle.meaning.proofs.Order.{before_irrefl, before_trans}
use Rattle.meaning.proofs.Pages.{printed_records}
use Rattle.meaning.specs.Basics.{All}
use Rattle.meaning.specs.Listing.{Before, Sorted, before}
use Rattle.meaning.specs.Machine.{last_or}
use Rattle.meaning.specs.Page.{after}
use Rattle.meaning.specs.Record.{Record}

-- ------------------------------------------------------------------ what comes after a record of a rising list
keep_all : (b : Record) (l : List Record) → All (Before b) l → after b l ≡ l
unfolding opened printed_records
keep_all b [] h = refl
keep_all b (r ∷ l) h = rw h.0 (ap (λ (t : List Record). r ∷ t) (keep_all b l h.1))

all_mid : (x : Record) (xs : List Record) (b : Record) (ys : List Record) → All (Before x) (xs ++ b ∷ ys) → Before x b
unfolding opened printed_records
all_mid x [] b ys h = h.0
all_mid x (y ∷ xs) b ys h = all_mid x xs b ys h.1

after_mid : (xs : List Record) (b : Record) (ys : List Record) → Sorted (xs ++ b ∷ ys) → after b (xs ++ b ∷ ys) ≡ ys
unfolding opened printed_records
after_mid [] b ys h = rw (is_false (before b b) (before_irrefl b)) (keep_all b ys h.0)
after_mid (x ∷ xs) b ys h = rw (is_false (before b x) (λ k. before_irrefl x (before_trans x b x (all_mid x xs b ys h.0) k))) (after_mid xs b ys h.1)

pub last_or_snoc : (b : Record) (xs : List Record) → (xs ≡ []) ⊎ ((ys : List Record) × (xs ≡ ys ++ (last_or b xs ∷ [])))
unfolding opened printed_records
last_or_snoc b [] = inl refl
last_or_snoc b (x ∷ xs) = inr (go (last_or_snoc x xs))
  where
    go : (xs ≡ []) ⊎ ((ys : List Record) × (xs ≡ ys ++ (last_or x xs ∷ []))) → (ys : List Record) × (x ∷ xs ≡ ys ++ (last_or x xs ∷ []))
    go (inl e) = ([], rw e refl)
    go (inr p) = (x ∷ p.0, ap (λ (t : List Record). x ∷ t) p.1)

pub last_or_append : (b : Record) (xs ys : List Record) → last_or b (xs ++ ys) ≡ last_or (last_or b xs) ys
unfolding opened printed_records
last_or_append b [] ys = refl
last_or_append b (x ∷ xs) ys = last_or_append x xs ys

snoc_case : (pre ys rest : List Record) (b : Record) → pre ≡ ys ++ (b ∷ []) → Sorted (pre ++ rest) → after b (pre ++ rest) ≡ rest
unfolding opened printed_records
snoc_case pre ys rest b e s = rw (e, append_assoc) (after_mid ys b rest (rw (e, append_assoc) at s))

nil_case : (pre rest : List Record) → pre ≡ [] → All (Before []) (pre ++ rest) → after (last_or [] pre) (pre ++ rest) ≡ rest
unfolding opened printed_records
nil_case pre rest e n = rw e (keep_all [] rest (rw e at n))

-- after the last record of a beginning comes the rest
pub after_seam : (pre rest : List Record) → Sorted (pre ++ rest) → All (Before []) (pre ++ rest) → after (last_or [] pre) (pre ++ rest) ≡ rest
unfolding opened printed_records
after_seam pre rest s n = go (last_or_snoc [] pre)
  where
    go : (pre ≡ []) ⊎ ((ys : List Record) × (pre ≡ ys ++ (last_or [] pre ∷ []))) → after (last_or [] pre) (pre ++ rest) ≡ rest
    go (inl e) = nil_case pre rest e n
    go (inr p) = snoc_case pre p.0 rest (last_or [] pre) p.1 s

pub all_left : (P : Record → Type 0) (xs ys : List Record) → All P (xs ++ ys) → All P xs
unfolding opened printed_records
all_left P [] ys h = tt
all_left P (x ∷ xs) ys h = (h.0, all_left P xs ys h.1)

pub all_right : (P : Record → Type 0) (xs ys : List Record) → All P (xs ++ ys) → All P ys
unfolding opened printed_records
all_right P [] ys h = h
all_right P (x ∷ xs) ys h = all_right P xs ys h.1
