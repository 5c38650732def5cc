-- The first cause that holds, from what the parts of the check answered.
use mathlib.Core.Path.{◌∙◌, ◌≡◌, refl, sym}
use mathlib.Core.List.{List}
use mathlib.Core.Option.{none, some}
use mathlib.Core.Bool.{Bool, false, true}
use Prim.Native.Nat.{ℕ}
use Rattle.meaning.proofs.Causes.{first_none, whole_none}
use Rattle.meaning.specs.Basics.{Cause, first_of, rowless}
use Rattle.meaning.specs.QueryWords.{bad_layout_lem, bad_names_lem, parts_fault, parts_of, query_fault, query_of, query_untyped}
use Rattle.query.specs.Fine.{Accepted, PartsFine}
use Rattle.std.specs.Prelude.{Result, Ok, Err, ⊤}
use Rattle.table.specs.Verdict.{cause_of, told_of}
use Rattle.table.specs.declared.causes.Refusal.{Refusal}

-- a, b, o and u are what was found of 31, 32, 11 to 16, 33
module _ (query : List ℕ) (a : Bool) (at_31 : a ≡ bad_layout_lem query) where
  pub layout_refused : a ≡ true → some (31, 0) ≡ query_fault query
  unfolding query_fault first_of rowless
  layout_refused e = rw (← at_31, e) refl

  pub laid_out : a ≡ false → bad_layout_lem query ≡ false
  laid_out e = sym at_31 ∙ e

  module _ (laid : a ≡ false) (b : Bool) (at_32 : b ≡ bad_names_lem (parts_of query)) where
    pub name_refused : b ≡ true → some (32, 0) ≡ query_fault query
    unfolding query_fault first_of rowless
    name_refused e = rw (← at_31, laid, ← at_32, e) refl

    module _ (named : b ≡ false) (o : Result ⊤ Refusal) (at_11 : cause_of o ≡ parts_fault (parts_of query)) where
      pub pattern_refused : (e : Refusal) → o ≡ Err e → some (told_of e) ≡ query_fault query
      unfolding query_fault first_of rowless
      pattern_refused e k = rw (← at_31, laid, ← at_32, named, ← at_11, k) refl

      pub parts_fine : o ≡ Ok tt → PartsFine query
      parts_fine k = record { laid_out = sym at_31 ∙ laid; named = sym at_32 ∙ named; accepted = sym at_11 ∙ rw k }

      module _ (accepted : o ≡ Ok tt) (u : Bool) (at_33 : u ≡ query_untyped (query_of (parts_of query))) where
        pub type_refused : u ≡ true → some (33, 0) ≡ query_fault query
        unfolding query_fault first_of rowless
        type_refused e = rw (← at_31, laid, ← at_32, named, ← at_11, accepted, ← at_33, e) refl

        pub nothing_refused : u ≡ false → none ≡ query_fault query
        unfolding query_fault first_of rowless
        nothing_refused e = rw (← at_31, laid, ← at_32, named, ← at_11, accepted, ← at_33, e) refl

-- ------------------------------------------------------------------ what no cause grants
pub accepted_fine : (query : List ℕ) → query_fault query ≡ none → Accepted query
unfolding query_fault
accepted_fine query e =
    let last : Cause = rowless 33 (query_untyped (query_of (parts_of query))) in
    let a = first_none (rowless 31 (bad_layout_lem query)) (first_of (rowless 32 (bad_names_lem (parts_of query))) (first_of (parts_fault (parts_of query)) last)) e in
    let b = first_none (rowless 32 (bad_names_lem (parts_of query))) (first_of (parts_fault (parts_of query)) last) a.1 in
    record { fine = record { laid_out = whole_none 31 (bad_layout_lem query) a.0; named = whole_none 32 (bad_names_lem (parts_of query)) b.0; accepted = (first_none (parts_fault (parts_of query)) last b.1).0 }; no_fault = e }
