-- What one call prints: the beginning of the answers that are left, all of them if it says done.
use mathlib.Core.Path.{◌∙◌, ◌≡◌, ap, refl, sym}
use mathlib.Core.List.{List, [], ◌++◌, ◌∷◌, append-nil}
use mathlib.Core.Option.{none, some}
use mathlib.Core.Bool.{Bool, false, true}
use Prim.Native.Nat.{◌-◌, ℕ}
use lib.Dec.{leb, ltb}
use lib.ListN.{drop, length}
use Rattle.meaning.proofs.Logic.{no_false}
use Rattle.meaning.proofs.Opened.{opened}
use Rattle.std.specs.Prelude.{if◌then◌else◌}
use Rattle.meaning.specs.Basics.{Cause, first_of, rowless}
use Rattle.meaning.specs.Machine.{is_done, printed_count}
use Rattle.meaning.specs.Page.{Lent, Outcome, filled, fit, answerable, is_empty, needs, outcome, overrun, printed, printing, refused, unanswered, unless_fault, unless_overrun_lem}
use Rattle.meaning.specs.Record.{Record}
use Rattle.meaning.specs.Sitting.{carries_past}

unfoldable pub printed_records : Outcome → List Record
printed_records unanswered = []
printed_records (refused c) = []
printed_records (needs n) = []
printed_records overrun = []
printed_records (printed rs done) = rs

pub count_is : (o : Outcome) → printed_count o ≡ length (printed_records o)
unfolding opened printed_records
count_is unanswered = refl
count_is (refused c) = refl
count_is (needs n) = refl
count_is overrun = refl
count_is (printed rs done) = refl

-- what holds of 34 and of an outcome holds of the one that it becomes; after 23 by search, so that a definition which gives 34 there is refused for
-- what it says and not for this law
pub unless_overrun : (P : Outcome → Type 0) (s : List ℕ) (o : Outcome) → P overrun → P o → P (unless_overrun_lem s o)
unfolding unless_overrun_lem
unless_overrun P s unanswered z h = h
unless_overrun P s (refused c) z h = h
unless_overrun P s (needs n) z h = search (z, h)
unless_overrun P s overrun z h = h
unless_overrun P s (printed rs done) z h = go (carries_past (length rs) s)
  where
    go : (b : Bool) → P (if b then overrun else printed rs done)
    go true = z
    go false = h

-- ------------------------------------------------------------------ a beginning of what is left
fit_prefix : (n : ℕ) (l : List Record) → fit n l ++ drop (length (fit n l)) l ≡ l
unfolding opened printed_records
fit_prefix n [] = refl
fit_prefix n (r ∷ l) = go (leb (length r) n) (fit_prefix (n - length r) l)
  where
    go : (b : Bool) → fit (n - length r) l ++ drop (length (fit (n - length r) l)) l ≡ l → (if b then r ∷ fit (n - length r) l else []) ++ drop (length (if b then r ∷ fit (n - length r) l else [])) (r ∷ l) ≡ r ∷ l
    go true ih = ap (λ (t : List Record). r ∷ t) ih
    go false ih = refl

abbrev Begins : Outcome → List Record → Type 0
Begins o rest = printed_records o ++ drop (length (printed_records o)) rest ≡ rest

filled_begins : (n : ℕ) (rest : List Record) → Begins (filled n rest) rest
unfolding opened printed_records
filled_begins n [] = refl
filled_begins n (r ∷ l) = go (leb (length r) n)
  where
    go : (b : Bool) → Begins (if b then printing n (r ∷ l) else needs (length r)) (r ∷ l)
    go true = fit_prefix n (r ∷ l)
    go false = refl

unless_begins : (c : Cause) (o : Outcome) (rest : List Record) → Begins o rest → Begins (unless_fault c o) rest
unfolding opened printed_records
unless_begins none o rest h = h
unless_begins (some f) o rest h = refl

pub outcome_begins : (fault : Cause) (c : Lent) (rest : List Record) → printed_records (outcome fault c rest) ++ drop (length (printed_records (outcome fault c rest))) rest ≡ rest
unfolding opened printed_records
outcome_begins fault c rest = go (answerable c)
  where
    go : (b : Bool) → Begins (if b then unless_fault (first_of fault (rowless 22 (ltb (length c.work) 20000))) (unless_overrun_lem c.sitting (filled (length c.page) rest)) else unanswered) rest
    go true = unless_begins (first_of fault (rowless 22 (ltb (length c.work) 20000))) (unless_overrun_lem c.sitting (filled (length c.page) rest)) rest (unless_overrun (λ o. Begins o rest) c.sitting (filled (length c.page) rest) refl (filled_begins (length c.page) rest))
    go false = refl

-- ------------------------------------------------------------------ done: all of what is left
abbrev All-if-done : Outcome → List Record → Type 0
All-if-done o rest = is_done o ≡ true → printed_records o ≡ rest

empty_drop : (a l : List Record) → a ++ drop (length a) l ≡ l → is_empty (drop (length a) l) ≡ true → a ≡ l
unfolding opened printed_records
empty_drop a l e h = go (drop (length a) l) e h
  where
    go : (d : List Record) → a ++ d ≡ l → is_empty d ≡ true → a ≡ l
    go [] q k = sym (append-nil a) ∙ q
    go (x ∷ d) q k = no_false k

filled_done : (n : ℕ) (rest : List Record) → All-if-done (filled n rest) rest
unfolding opened printed_records
filled_done n [] = λ e. refl
filled_done n (r ∷ l) = go (leb (length r) n)
  where
    go : (b : Bool) → All-if-done (if b then printing n (r ∷ l) else needs (length r)) (r ∷ l)
    go true = λ e. empty_drop (fit n (r ∷ l)) (r ∷ l) (fit_prefix n (r ∷ l)) e
    go false = λ e. no_false e

unless_done : (c : Cause) (o : Outcome) (rest : List Record) → All-if-done o rest → All-if-done (unless_fault c o) rest
unfolding opened printed_records
unless_done none o rest h = h
unless_done (some f) o rest h = λ e. no_false e

pub outcome_done : (fault : Cause) (c : Lent) (rest : List Record) → is_done (outcome fault c rest) ≡ true → printed_records (outcome fault c rest) ≡ rest
unfolding opened printed_records
outcome_done fault c rest = go (answerable c)
  where
    go : (b : Bool) → All-if-done (if b then unless_fault (first_of fault (rowless 22 (ltb (length c.work) 20000))) (unless_overrun_lem c.sitting (filled (length c.page) rest)) else unanswered) rest
    go true = unless_done (first_of fault (rowless 22 (ltb (length c.work) 20000))) (unless_overrun_lem c.sitting (filled (length c.page) rest)) rest (unless_overrun (λ o. All-if-done o rest) c.sitting (filled (length c.page) rest) (λ e. no_false e) (filled_done (length c.page) rest))
    go false = λ e. no_false e
