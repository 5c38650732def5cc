-- Of one part without a name, the words that the checker writes are the type area that the records are read by. Assumes nothing.
use Rattle.std.proofs.Common.{◌≡◌, ℕ, zero, suc, ◌+◌, ◌-◌, ◌*◌, ◌<◌, Bool, true, false, List, [], ◌∷◌, ◌++◌, length, get_or, take, drop, replicate, sym, refl, ap, ◌∙◌, arith, drop-drop, le-leb}
use mathlib.Core.List.{head-eq_of_cons-eq, tail-eq_of_cons-eq}
use Rattle.meaning.specs.Answer.{Restrictor}
use Rattle.meaning.specs.Pattern.{Pattern, in_var}
use Rattle.meaning.specs.Query.{has_restricted, in_query, plain, unnamed}
use Rattle.meaning.specs.QueryWords.{query_type_words}
use Rattle.meaning.specs.Table.{is_variable_lem, ty_words}
use Rattle.meaning.specs.Typing.{Edge, Group, Maybe, Node, Ty, type_of}
use Rattle.meaning.proofs.Accepted.{Accepted}
use Rattle.meaning.proofs.QueryGranted.{is_query_variable, variable_in}
use Rattle.meaning.proofs.QueryTold.{query_types_told, query_unused_told, query_ty_words}
use Rattle.meaning.proofs.TypeWords.{type_fits, type_slot}
use Rattle.meaning.proofs.Types.{has_iff, well_typed_iff}
use Rattle.meaning.proofs.Unused.{unused→absent}
use Rattle.printing.specs.Sizes.{SlotAt, TypeAt, TypesAt}
use Rattle.printing.proofs.Ends.{head_is}

-- no words are not some
empty : {A : Type 0} (a : ℕ) (rest : List ℕ) → ◌≡◌ {A = List ℕ} [] (a ∷ rest) → A
empty a rest e = let z : 0 ≡ suc (length rest) = ap length e in absurd (omega arith)

-- the first of some words, and the others
first_word : (u : List ℕ) (n a : ℕ) (rest : List ℕ) → take n u ≡ a ∷ rest → get_or u 0 0 ≡ a
first_word [] zero a rest e = empty a rest e
first_word [] (suc n) a rest e = empty a rest e
first_word (b ∷ u) zero a rest e = empty a rest e
first_word (b ∷ u) (suc n) a rest e = head-eq_of_cons-eq e

other_words : (u : List ℕ) (n a : ℕ) (rest : List ℕ) → take n u ≡ a ∷ rest → take (n - 1) (drop 1 u) ≡ rest
other_words [] zero a rest e = empty a rest e
other_words [] (suc n) a rest e = empty a rest e
other_words (b ∷ u) zero a rest e = empty a rest e
other_words (b ∷ u) (suc n) a rest e = let m : suc n - 1 ≡ n = omega arith in ap (λ (i : ℕ). take i u) m ∙ tail-eq_of_cons-eq e

word_at : (t : List ℕ) (n k a : ℕ) (rest : List ℕ) → take n (drop k t) ≡ a ∷ rest → get_or t k 0 ≡ a
word_at t n k a rest e = sym (head_is t k) ∙ first_word (drop k t) n a rest e

next_at : (t : List ℕ) (n k a : ℕ) (rest : List ℕ) → take n (drop k t) ≡ a ∷ rest → take (n - 1) (drop (k + 1) t) ≡ rest
next_at t n k a rest e = ap (λ (u : List ℕ). take (n - 1) u) (sym (drop-drop 1 k t)) ∙ other_words (drop k t) n a rest e

type_at : (τ : Ty) (t zs : List ℕ) (n k : ℕ) → take n (drop k t) ≡ ty_words τ ++ zs → TypeAt τ t k
unfolding TypeAt ty_words
type_at Node t zs n k e = word_at t n k 1 zs e
type_at Edge t zs n k e = word_at t n k 2 zs e
type_at (Maybe τ) t zs n k e = (word_at t n k 3 (ty_words τ ++ zs) e, type_at τ t zs (n - 1) (k + 1) (next_at t n k 3 (ty_words τ ++ zs) e))
type_at (Group τ) t zs n k e = (word_at t n k 4 (ty_words τ ++ zs) e, type_at τ t zs (n - 1) (k + 1) (next_at t n k 4 (ty_words τ ++ zs) e))

is_variable : (i : ℕ) → i < 8 → is_variable_lem (suc i) ≡ true
unfolding is_variable_lem
is_variable i h = rw (le-leb 1 (suc i) (omega arith), le-leb (suc i) 8 (omega arith)) refl

-- the six words of the variable i + 1
slot_words : (t : List ℕ) (i : ℕ) → type_slot t (suc i) ≡ take 6 (drop (6 * i) t)
unfolding type_slot
slot_words t i = let e : suc i - 1 ≡ i = omega arith in ap (λ (m : ℕ). take 6 (drop (6 * m) t)) e

-- the type area of an accepted pattern
pub types_at : (ρ : Restrictor) (π : Pattern) → Accepted π → TypesAt (type_of π) (query_type_words (unnamed ρ π))
unfolding SlotAt in_query query_ty_words
types_at ρ π ok i h = go (in_var π (suc i)) refl
  where
    t : List ℕ
    t = query_type_words (unnamed ρ π)

    v : is_query_variable (suc i) ≡ true
    v = variable_in (suc i) (is_variable i h)

    go : (b : Bool) → in_var π (suc i) ≡ b → SlotAt (type_of π (suc i)) t (6 * i)
    go false u =
        let e : take 6 (drop (6 * i) t) ≡ replicate 6 0 = sym (slot_words t i) ∙ query_unused_told (unnamed ρ π) (suc i) v u in
        rw (unused→absent π (suc i) u) (word_at t 6 (6 * i) 0 (replicate 5 0) e)
    go true u =
        let (τ, has) = (well_typed_iff π).1 ok.no_clash (suc i) u in
        let e : take 6 (drop (6 * i) t) ≡ ty_words τ ++ replicate (6 - length (ty_words τ)) 0 = sym (slot_words t i) ∙ query_types_told (unnamed ρ π) ok (suc i) v (plain τ) (has_restricted has) in
        rw ((has_iff π (suc i) τ).1 has) (type_at τ t (replicate (6 - length (ty_words τ)) 0) 6 (6 * i) e, type_fits π ok.shallow (suc i) τ has)
