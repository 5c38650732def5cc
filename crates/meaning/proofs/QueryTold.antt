-- What the checker and the judge say of a query: the 72 words tell each variable's type; 33 is just that some variable has none; the judge says
-- yes to the records of the answers alone.
use mathlib.Core.Path.{◌∙◌, ◌≡◌, ap, refl}
use mathlib.Core.List.{List, [], ◌++◌, ◌∷◌}
use mathlib.Core.Option.{none}
use mathlib.Core.Bool.{false, true}
use mathlib.Core.Logic.{◌≢◌, ◌↔◌}
use Prim.Native.Nat.{◌*◌, ◌+◌, ◌-◌, ◌≤◌, suc, zero, ℕ}
use native.Mathlib.Omega.{arith}
use lib.Dec.{leb}
use lib.ListN.{length, length-append, replicate}
use borrow.Author.Tests.{leb-true}
use Rattle.meaning.proofs.Judged.{one_of→, one_of←}
use Rattle.meaning.proofs.Logic.{and_l, and_r}
use Rattle.meaning.proofs.QueryGranted.{is_query_variable, query_members, query_no_clash}
use Rattle.meaning.proofs.QueryOpened.{query_opened}
use Rattle.meaning.proofs.QuerySize.{QueryAccepted}
use Rattle.meaning.proofs.QueryTypes.{query_has→, query_typed_iff, query_unused→absent}
use Rattle.meaning.proofs.TypeWords.{block, length_padded, padded_is, type_fits, type_slot}
use Rattle.meaning.specs.Basics.{◌∈◌, each, up_from}
use Rattle.meaning.specs.Image.{graph_of}
use Rattle.meaning.specs.Query.{Query, QueryFound, QueryHas, QueryTy, QueryTyped, Path, element, found_ty, has_in_both, has_in_first, has_in_second, has_name, has_other, has_restricted, in_query, path, plain, query_type_of}
use Rattle.meaning.specs.QueryListing.{judge_query, query_fixed_fault, query_full_listing, query_in}
use Rattle.meaning.specs.QueryRecord.{QueryListed, twelve}
use Rattle.meaning.specs.QueryWords.{is_query_clash, query_found_words, query_type_words, query_untyped}
use Rattle.meaning.specs.Record.{Record}
use Rattle.meaning.specs.Table.{any_of, padded, ty_words}
use Rattle.meaning.specs.Typing.{absent, clash, typed}

-- ------------------------------------------------------------------ types in words
unfoldable pub query_ty_words : QueryTy → List ℕ
query_ty_words (plain τ) = ty_words τ
query_ty_words Path = 5 ∷ []

words_are : (τ : QueryTy) → query_found_words (found_ty τ) ≡ query_ty_words τ
unfolding query_opened query_ty_words
words_are (plain τ) = refl
words_are Path = refl

words_few : {Q : Query} {x : ℕ} {τ : QueryTy} → QueryAccepted Q → QueryHas Q x τ → length (query_ty_words τ) ≤ 6
unfolding query_opened query_ty_words
words_few ok (has_restricted {π = π} {z = z} {τ = τ} h) = type_fits π ok.shallow z τ h
words_few ok (has_name u) = omega arith
words_few ok (has_other {π = π} {z = z} {τ = τ} h n) = type_fits π ok.0.shallow z τ h
words_few ok (has_in_both h k s) = words_few ok.0 h
words_few ok (has_in_first h u) = words_few ok.0 h
words_few ok (has_in_second h u) = words_few ok.1 h

query_slot_is : (Q : Query) (x : ℕ) → is_query_variable x ≡ true → type_slot (query_type_words Q) x ≡ padded (query_found_words (query_type_of Q x))
unfolding query_opened type_slot is_query_variable
query_slot_is Q x v =
    let a : 1 ≤ x = leb-true 1 x (and_l (leb 1 x) (leb x 12) v) in
    let b : x ≤ 12 = leb-true x 12 (and_r (leb 1 x) (leb x 12) v) in
    block (λ y. padded (query_found_words (query_type_of Q y))) (λ y. length_padded (query_found_words (query_type_of Q y))) 12 1 (x - 1) (omega arith) ∙ (let e : 1 + (x - 1) ≡ x = omega arith in ap (λ (y : ℕ). padded (query_found_words (query_type_of Q y))) e)

-- a variable of the type τ by Figure 2: τ's numbers (5 for Path), then zeros up to six
pub query_types_told : (Q : Query) → QueryAccepted Q → (x : ℕ) → is_query_variable x ≡ true → (τ : QueryTy) → QueryHas Q x τ → type_slot (query_type_words Q) x ≡ query_ty_words τ ++ replicate (6 - length (query_ty_words τ)) 0
query_types_told Q ok x v τ h = query_slot_is Q x v ∙ (ap (λ (f : QueryFound). padded (query_found_words f)) (query_has→ h) ∙ (ap padded (words_are τ) ∙ padded_is (query_ty_words τ) (words_few ok h)))

pub query_unused_told : (Q : Query) (x : ℕ) → is_query_variable x ≡ true → in_query Q x ≡ false → type_slot (query_type_words Q) x ≡ replicate 6 0
unfolding query_opened
query_unused_told Q x v u = query_slot_is Q x v ∙ ap (λ (f : QueryFound). padded (query_found_words f)) (query_unused→absent Q x u)

pub query_types_length : (Q : Query) → length (query_type_words Q) ≡ 72
unfolding query_opened
query_types_length Q = blocks 12 1
  where
    blocks : (n i : ℕ) → length (each (up_from n i) (λ x. padded (query_found_words (query_type_of Q x)))) ≡ 6 * n
    blocks zero i = refl
    blocks (suc n) i = length-append (padded (query_found_words (query_type_of Q i))) (each (up_from n (suc i)) (λ x. padded (query_found_words (query_type_of Q x)))) ∙ omega (arith, length_padded (query_found_words (query_type_of Q i)), blocks n (suc i))

-- ------------------------------------------------------------------ 33
-- of parts that are accepted each, 33 is not given just where the query is well typed (Definition 1)
pub untyped_is : (Q : Query) → QueryAccepted Q → (query_untyped Q ≡ false) ↔ QueryTyped Q
unfolding query_opened
untyped_is Q ok = ((λ u. (query_typed_iff Q).1 (query_no_clash Q ok u)), (λ t. none_clash twelve ((query_typed_iff Q).0 t)))
  where
    clean : (f : QueryFound) → f ≢ element clash → is_query_clash f ≡ false
    clean (element absent) n = refl
    clean (element clash) n = absurd (n refl)
    clean (element (typed τ)) n = refl
    clean path n = refl

    none_clash : (l : List ℕ) → ((x : ℕ) → query_type_of Q x ≢ element clash) → any_of l (λ x. is_query_clash (query_type_of Q x)) ≡ false
    none_clash [] h = refl
    none_clash (x ∷ l) h = rw (clean (query_type_of Q x) (h x)) (none_clash l h)

-- ------------------------------------------------------------------ the judge
pub query_judged : (image query : List ℕ) (r : Record) → (judge_query image query r ≡ true) ↔ (r ∈ query_full_listing image query)
unfolding query_opened
query_judged image query r = (one_of→ r (query_full_listing image query), one_of← r)

pub query_judged_answer : (image query : List ℕ) → query_fixed_fault image query ≡ none → (r : Record) → (judge_query image query r ≡ true) ↔ QueryListed (graph_of image) (query_in query) r
query_judged_answer image query ok r = ((λ e. (query_members image query ok r).0 ((query_judged image query r).0 e)), (λ h. (query_judged image query r).1 ((query_members image query ok r).1 h)))
