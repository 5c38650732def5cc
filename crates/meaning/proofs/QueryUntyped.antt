-- 33 among the causes of a refusal: just where the layout, the names and every part are right and two parts do not agree on a variable; and what
-- is not refused is well-typed (Definition 1).
use mathlib.Core.Path.{◌∙◌, ◌≡◌, ap, refl}
use mathlib.Core.List.{List, [], ◌∷◌}
use mathlib.Core.Option.{Option, none, some}
use mathlib.Core.Bool.{Bool, false, true}
use mathlib.Core.Logic.{◌≢◌, ◌↔◌}
use Prim.Native.Nat.{◌≤◌, ℕ}
use native.Mathlib.Omega.{arith}
use lib.ListN.{length}
use Rattle.meaning.proofs.Causes.{first_none, whole_none}
use Rattle.meaning.proofs.Logic.{no_none, some_inj}
use Rattle.meaning.proofs.QueryGranted.{layout_parts, parts_accepted}
use Rattle.meaning.proofs.QuerySize.{QueryAccepted}
use Rattle.meaning.proofs.QueryTold.{untyped_is}
use Rattle.meaning.proofs.QueryOpened.{query_opened}
use Rattle.meaning.specs.Basics.{Cause, at_row, first_of, lowest, rowless}
use Rattle.meaning.specs.Query.{QueryTyped}
use Rattle.meaning.specs.QueryListing.{query_in}
use Rattle.meaning.specs.QueryWords.{Part, bad_layout_lem, bad_names_lem, parts_fault, parts_of, query_fault, query_of, query_untyped}
use Rattle.meaning.specs.Table.{Row, bad_length, fault12, fault13, fault14, fault15, fault16, pattern_fault, row_cause, rows_of, table_fault}
use Rattle.meaning.proofs.QueryShared.{Differ, OfTwo, good_parts, untyped→, untyped←}

-- a pattern's own cause is no greater than 16
abbrev Least16 : Cause → Type 0
Least16 c = (n i : ℕ) → c ≡ some (n, i) → n ≤ 16

first_16 : (a b : Cause) → Least16 a → Least16 b → Least16 (first_of a b)
unfolding query_opened
first_16 none b h k = k
first_16 (some c) b h k = h

row_16 : (n : ℕ) → n ≤ 16 → (r : Option ℕ) → Least16 (at_row n r)
unfolding query_opened
row_16 n h none m i e = no_none e
row_16 n h (some j) m i e = let z : n ≡ m = ap (λ (p : ℕ × ℕ). p.0) (some_inj e) in omega arith

rowless_16 : (t : Bool) → Least16 (rowless 11 t)
unfolding query_opened
rowless_16 true m i e = let z : 11 ≡ m = ap (λ (p : ℕ × ℕ). p.0) (some_inj e) in omega arith
rowless_16 false m i e = no_none e

pattern_16 : (w : List ℕ) → Least16 (pattern_fault w)
unfolding query_opened
pattern_16 w =
    let t : List Row = rows_of w in
    let find : (ℕ → Bool) → Option ℕ = λ f. lowest (length t) 0 f in
    first_16 (rowless 11 (bad_length w)) (table_fault t) (rowless_16 (bad_length w))
    (first_16 (row_cause t 12 (fault12 t)) _ (row_16 12 (omega arith) (find (fault12 t)))
    (first_16 (row_cause t 13 (fault13 t)) _ (row_16 13 (omega arith) (find (fault13 t)))
    (first_16 (row_cause t 14 (fault14 t)) _ (row_16 14 (omega arith) (find (fault14 t)))
    (first_16 (row_cause t 15 (fault15 t)) _ (row_16 15 (omega arith) (find (fault15 t))) (row_16 16 (omega arith) (find (fault16 t)))))))

parts_16 : (l : List Part) → Least16 (parts_fault l)
unfolding query_opened
parts_16 [] = λ m i e. no_none e
parts_16 (a ∷ l) = first_16 (pattern_fault a.words) (parts_fault l) (pattern_16 a.words) (parts_16 l)

-- laid out, the names right, each part accepted, and a variable that two parts do not agree on
pub record SharedUntyped (query : List ℕ) : Type 0 where
  pub laid_out : bad_layout_lem query ≡ false
  pub named : bad_names_lem (parts_of query) ≡ false
  pub accepted : parts_fault (parts_of query) ≡ none
  pub variable : ℕ
  pub differ : OfTwo (Differ variable) (parts_of query)

pub refused_33 : (query : List ℕ) → (query_fault query ≡ some (33, 0)) ↔ SharedUntyped query
unfolding query_opened
refused_33 query = (there (bad_layout_lem query) (bad_names_lem (parts_of query)) (parts_fault (parts_of query)) (query_untyped (query_of (parts_of query))) refl refl refl refl, back)
  where
    number : (m n : ℕ) → m ≢ n → ◌≡◌ {A = Cause} (some (m, 0)) (some (n, 0)) → ⊥
    number m n h e = h (ap (λ (p : ℕ × ℕ). p.0) (some_inj e))

    some_part : (l : List Part) → 1 ≤ length l → bad_names_lem l ≡ false → parts_fault l ≡ none → query_untyped (query_of l) ≡ true → (x : ℕ) × OfTwo (Differ x) l
    some_part [] h n f u = absurd (omega arith)
    some_part (a ∷ l) h n f u = untyped→ a l (good_parts (a ∷ l) n f) n u

    there : (b n : Bool) (f : Cause) (u : Bool) → bad_layout_lem query ≡ b → bad_names_lem (parts_of query) ≡ n → parts_fault (parts_of query) ≡ f → query_untyped (query_of (parts_of query)) ≡ u
        → first_of (rowless 31 b) (first_of (rowless 32 n) (first_of f (rowless 33 u))) ≡ some (33, 0) → SharedUntyped query
    there true n f u p q r s e = absurd (number 31 33 (λ z. omega arith) e)
    there false true f u p q r s e = absurd (number 32 33 (λ z. omega arith) e)
    there false false (some c) u p q r s e = let z = parts_16 (parts_of query) 33 0 (r ∙ e) in absurd (omega arith)
    there false false none false p q r s e = no_none e
    there false false none true p q r s e = let h = some_part (parts_of query) (layout_parts query p).0 q r s in record { laid_out = p; named = q; accepted = r; variable = h.0; differ = h.1 }

    untyped : (l : List Part) (x : ℕ) → bad_names_lem l ≡ false → parts_fault l ≡ none → OfTwo (Differ x) l → query_untyped (query_of l) ≡ true
    untyped [] x n f t = elim t [ ]
    untyped (a ∷ l) x n f t = untyped← a l (good_parts (a ∷ l) n f) n x t

    back : SharedUntyped query → query_fault query ≡ some (33, 0)
    back h = rw (h.laid_out, h.named, h.accepted, untyped (parts_of query) h.variable h.named h.accepted h.differ) refl

-- accepted exactly where it is laid out, the names are right, each part is accepted, and the query is well-typed
pub accepted_query : (query : List ℕ) → (query_fault query ≡ none) ↔ ((bad_layout_lem query ≡ false) × (bad_names_lem (parts_of query) ≡ false) × (parts_fault (parts_of query) ≡ none) × QueryTyped (query_in query))
unfolding query_opened
accepted_query query = (there, back)
  where
    ok : bad_layout_lem query ≡ false → bad_names_lem (parts_of query) ≡ false → parts_fault (parts_of query) ≡ none → QueryAccepted (query_in query)
    ok p q r = parts_accepted (parts_of query) (layout_parts query p).0 q r

    there : query_fault query ≡ none → (bad_layout_lem query ≡ false) × (bad_names_lem (parts_of query) ≡ false) × (parts_fault (parts_of query) ≡ none) × QueryTyped (query_in query)
    there e =
        let l : List Part = parts_of query in
        let last : Cause = rowless 33 (query_untyped (query_of l)) in
        let a = first_none (rowless 31 (bad_layout_lem query)) (first_of (rowless 32 (bad_names_lem l)) (first_of (parts_fault l) last)) e in
        let b = first_none (rowless 32 (bad_names_lem l)) (first_of (parts_fault l) last) a.1 in
        let c = first_none (parts_fault l) last b.1 in
        let p = whole_none 31 (bad_layout_lem query) a.0 in
        let q = whole_none 32 (bad_names_lem l) b.0 in
        (p, q, c.0, (untyped_is (query_in query) (ok p q c.0)).0 (whole_none 33 (query_untyped (query_of l)) c.1))

    back : (bad_layout_lem query ≡ false) × (bad_names_lem (parts_of query) ≡ false) × (parts_fault (parts_of query) ≡ none) × QueryTyped (query_in query) → query_fault query ≡ none
    back h = rw (h.0, h.1, h.2, (untyped_is (query_in query) (ok h.0 h.1 h.2)).1 h.3) refl
