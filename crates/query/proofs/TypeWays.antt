-- The ways through the types of the variables.
use mathlib.Core.Path.{◌∙◌, ◌≡◌, ap, refl, sym}
use mathlib.Core.List.{List, [], ◌∷◌}
use mathlib.Core.Option.{none}
use mathlib.Core.Bool.{Bool, false, true}
use mathlib.Core.Logic.{◌≢◌}
use Prim.Native.Nat.{ℕ, zero, suc, ◌+◌, ◌-◌, ◌/◌, ◌<◌, ◌≤◌}
use native.Mathlib.Omega.{arith}
use lib.Dec.{eqb, leb, ltb}
use lib.ListN.{drop, drop_of_length-le, length, take}
use borrow.Author.Tests.{eqb-false, eqb-true, le-leb, leb-true, lt-leb, ltb-false, ltb-true}
use Rattle.joins.proofs.NamedTypes.{name_found, name_found_lem}
use Rattle.joins.proofs.Setting.{each_accepted, type_found}
use Rattle.joins.specs.Flat.{PartsAccepted}
use Rattle.joins.specs.Projected.{found_in}
use Rattle.meaning.proofs.Causes.{first_none}
use Rattle.meaning.proofs.Logic.{and_both, and_l}
use Rattle.meaning.proofs.QueryGranted.{is_query_variable, layout_parts, parts_accepted, query_no_clash, query_variables}
use Rattle.meaning.proofs.QuerySize.{QueryAccepted}
use Rattle.meaning.proofs.QueryTold.{untyped_is}
use Rattle.meaning.proofs.QueryTypes.{element_inj, no_element, query_typed_iff, query_unused→absent}
use Rattle.meaning.specs.Query.{Query, element, in_query, query_type_of}
use Rattle.meaning.specs.QueryWords.{Part, name_used_lem, parts_fault, parts_of, query_of, query_untyped}
use Rattle.meaning.specs.Table.{is_variable_lem, pattern_fault, pattern_of}
use Rattle.meaning.specs.Typing.{Found, absent, clash, typed, type_of}
use Rattle.query.proofs.PartLaws.{from_part}
use Rattle.query.specs.Fine.{PartsFine}
use Rattle.query.specs.Parts.{PartIs, PartsCounted, part_in}
use Rattle.query.specs.declared.layout.Part.{Part as PartRead}
use Rattle.table.proofs.AcceptedTable.{accepted_checked}
use Rattle.table.proofs.Roots.{root_long, root_pattern, root_room}
use Rattle.table.specs.Variables.{HasType, Within}
use Rattle.typecode.proofs.Codes.{ty_digit}
use Rattle.typecode.specs.Codes.{Joins, code_of}

-- ------------------------------------------------------------------ pattern_type
module _ (pattern : List ℕ) (ok : pattern_fault pattern ≡ none) where
  pub some_row : 1 ≤ length pattern / 5
  some_row = omega (arith, root_long pattern ok)

  pub root_within : Within pattern (length pattern / 5 - 1)
  root_within = record { accepted = accepted_checked pattern ok; room = root_room pattern ok }

  pub root_type : (x r : ℕ) → HasType pattern (length pattern / 5 - 1) x r → r ≡ code_of (type_of (pattern_of pattern) x)
  root_type x r h = h.is ∙ ap (λ π. code_of (type_of π x)) (root_pattern pattern ok)

-- ------------------------------------------------------------------ type_code
-- code is the type that the parts from i on give x
pub record Coded (query : List ℕ) (x i code : ℕ) : Type 0 where
  pub upto : i ≤ length (parts_of query)
  pub is : code ≡ code_of (found_in (drop i (parts_of query)) x)

pub later_none : (l : List Part) (i : ℕ) → parts_fault l ≡ none → parts_fault (drop i l) ≡ none
unfolding parts_fault
later_none l zero e = e
later_none [] (suc i) e = e
later_none (a ∷ l) (suc i) e = later_none l i (first_none (pattern_fault a.words) (parts_fault l) e).1

module _ (query : List ℕ) (x : ℕ) where
  pub coded_none : (n : ℕ) → PartsCounted query n → Coded query x n 0
  unfolding found_in code_of
  coded_none n c = record { upto = omega (arith, c.is); is = sym (ap (λ (l : List Part). code_of (found_in l x)) (drop_of_length-le (parts_of query) {i = n} (omega (arith, c.is)))) }

  module _ (i code : ℕ) (b : Coded query x i code) where
    pub coded_within : 0 < i → i - 1 < length (parts_of query)
    coded_within h = omega (arith, b.upto)

    pub coded_all : i ≤ 0 → code ≡ code_of (found_in (parts_of query) x)
    coded_all h = let e : i ≡ 0 = omega arith in b.is ∙ ap (λ (k : ℕ). code_of (found_in (drop k (parts_of query)) x)) e

    module _ (h : 0 < i) (part : PartRead) (p : PartIs query (i - 1) part) where
      here : drop (i - 1) (parts_of query) ≡ part_in query part ∷ drop i (parts_of query)
      here = let e : suc (i - 1) ≡ i = omega arith in from_part query (i - 1) part p (coded_within h) ∙ ap (λ (k : ℕ). part_in query part ∷ drop k (parts_of query)) e

      pub part_accepted : PartsFine query → pattern_fault (take (part.to - part.from) (drop part.from query)) ≡ none
      unfolding parts_fault
      part_accepted f = (first_none (pattern_fault (take (part.to - part.from) (drop part.from query))) (parts_fault (drop i (parts_of query))) (ap parts_fault (sym here) ∙ later_none (parts_of query) (i - 1) f.accepted)).0

      pub coded_more : (own r : ℕ) → own ≡ code_of (type_of (pattern_of (take (part.to - part.from) (drop part.from query))) x) → Joins own code r → Coded query x (i - 1) r
      unfolding found_in
      coded_more own r e j = record { upto = omega (arith, b.upto); is = j.is (type_of (pattern_of (take (part.to - part.from) (drop part.from query))) x) (found_in (drop i (parts_of query)) x) e b.is ∙ sym (ap (λ (l : List Part). code_of (found_in l x)) here) }

-- ------------------------------------------------------------------ untyped
query_some : (x : ℕ) → is_query_variable x ≡ true → 1 ≤ x
unfolding is_query_variable
query_some x e = leb-true 1 x (and_l (leb 1 x) (leb x 12) e)

clash_code : (f : Found) → code_of f ≡ 7 → f ≡ clash
unfolding code_of
clash_code absent e = absurd (omega arith)
clash_code clash e = refl
clash_code (typed τ) e = absurd (omega (arith, ty_digit τ))

-- no variable below x has two types
pub record Agreed (query : List ℕ) (x : ℕ) : Type 0 where
  pub low : 1 ≤ x
  pub high : x ≤ 9
  pub clean : (y : ℕ) → 1 ≤ y → y < x → found_in (parts_of query) y ≢ clash

module _ (query : List ℕ) (f : PartsFine query) where
  abbrev l : List Part
  l = parts_of query

  abbrev Q : Query
  Q = query_of (parts_of query)

  some_part : 1 ≤ length (parts_of query)
  some_part = (layout_parts query f.laid_out).0

  fine_parts : PartsAccepted (parts_of query)
  fine_parts = each_accepted (parts_of query) f.named f.accepted

  fine_query : QueryAccepted (query_of (parts_of query))
  fine_query = parts_accepted (parts_of query) some_part f.named f.accepted

  pub variable_type : (x : ℕ) → 1 ≤ x → x < 9 → query_type_of (query_of (parts_of query)) x ≡ element (found_in (parts_of query) x)
  unfolding is_variable_lem
  variable_type x a b = type_found l fine_parts some_part x (and_both (le-leb 1 x a) (le-leb x 8 (omega arith)))

  pub name_type : (x : ℕ) → 9 ≤ x → query_type_of (query_of (parts_of query)) x ≡ name_found_lem (name_used_lem x (parts_of query))
  unfolding is_variable_lem
  name_type x a = name_found x (λ e. omega arith) (rw (le-leb 1 x (omega arith), lt-leb x 8 (omega arith)) refl) l fine_parts f.named some_part

  pub agreed_none : Agreed query 1
  agreed_none = record { low = omega arith; high = omega arith; clean = λ y a b. absurd (omega arith) }

  module _ (x : ℕ) (a : Agreed query x) where
    module _ (h : x < 9) (code : ℕ) (told : code ≡ code_of (found_in (parts_of query) x)) where
      pub agreed_more : (code ≡ 7 → ⊥) → Agreed query (x + 1)
      unfolding code_of
      agreed_more n = record { low = omega arith; high = omega arith; clean = λ y b c. at y b c (eqb y x) refl }
        where
          at : (y : ℕ) → 1 ≤ y → y < x + 1 → (t : Bool) → eqb y x ≡ t → found_in (parts_of query) y ≢ clash
          at y b c true e q = n (told ∙ ap code_of (ap (found_in (parts_of query)) (sym (eqb-true y x e)) ∙ q))
          at y b c false e q = let z : y ≢ x = eqb-false y x e in a.clean y b (omega arith) q

      pub agreed_not : code ≡ 7 → true ≡ query_untyped (query_of (parts_of query))
      agreed_not e = go (query_untyped Q) refl
        where
          go : (b : Bool) → query_untyped (query_of (parts_of query)) ≡ b → true ≡ b
          go true u = refl
          go false u = absurd (query_no_clash Q fine_query u x (variable_type x a.low h ∙ ap element (clash_code (found_in (parts_of query) x) (sym told ∙ e))))

    pub agreed_all : 9 ≤ x → false ≡ query_untyped (query_of (parts_of query))
    unfolding name_found_lem
    agreed_all h = sym ((untyped_is Q fine_query).1 ((query_typed_iff Q).1 no_clash))
      where
        absent_clash : absent ≡ clash → ⊥
        absent_clash e = let z : ◌≡◌ {A = ℕ} 0 1 = cc in omega arith

        not_name : (b : Bool) → name_found_lem b ≢ element clash
        not_name true e = no_element e
        not_name false e = absent_clash (element_inj e)

        at : (y : ℕ) → 1 ≤ y → (b : Bool) → ltb y 9 ≡ b → query_type_of (query_of (parts_of query)) y ≢ element clash
        at y g true u e = a.clean y g (omega (arith, ltb-true y 9 u)) (element_inj (sym (variable_type y g (ltb-true y 9 u)) ∙ e))
        at y g false u e = not_name (name_used_lem y (parts_of query)) (sym (name_type y (ltb-false y 9 u)) ∙ e)

        no_clash : (y : ℕ) → query_type_of (query_of (parts_of query)) y ≢ element clash
        no_clash y e = go (in_query Q y) refl
          where
            go : (b : Bool) → in_query Q y ≡ b → ⊥
            go true u = at y (query_some y (query_variables Q fine_query y u)) (ltb y 9) refl e
            go false u = absent_clash (element_inj (sym (query_unused→absent Q y u) ∙ e))
