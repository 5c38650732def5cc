-- The first cause that refuses a call, from what was found of the image, the query, its restrictors and the work buffer.
use mathlib.Core.Path.{◌≡◌, ap, refl, sym, ◌∙◌}
use mathlib.Core.Bool.{Bool, true, false, not}
use mathlib.Core.List.{List}
use Prim.Native.Nat.{ℕ, ◌<◌, ◌≤◌}
use lib.ListN.{length}
use borrow.Author.Tests.{le-ltb, lt-ltb}
use Rattle.meaning.specs.Basics.{first_of, rowless}
use Rattle.meaning.specs.Image.{image_fault}
use Rattle.meaning.specs.QueryListing.{query_fixed_fault}
use Rattle.meaning.specs.QueryWords.{bad_layout_lem, bad_restrictor, parts_of, query_fault}
use Rattle.image.specs.Verdict.{cause_of as read_cause}
use Rattle.image.specs.declared.reader.Refusal.{Refusal as Read}
use Rattle.query.proofs.CheckWays.{accepted_fine}
use Rattle.query.specs.Verdict.{cause_of as check_cause}
use Rattle.query.specs.declared.causes.Refusal.{Refusal as Checked}
use Rattle.std.specs.Prelude.{Result, Ok, Err, ⊤}
use Rattle.gpc.specs.declared.refusal.Refusal.TheVariants.{Image, Query, Restrictor, ShortWork}
use Rattle.gpc.specs.Answered.{FirstCause}

twice_not : (b : Bool) → not (not b) ≡ b
twice_not true = refl
twice_not false = refl

-- v and u are what was told of the image and of the query, t whether all restrictors are fine
module _ (image query work : List ℕ) (v : Result ⊤ Read) (hv : read_cause v ≡ image_fault image) where
  pub image_refused : (e : Read) → v ≡ Err e → FirstCause image query work (Err (Image e))
  unfolding query_fixed_fault first_of
  image_refused e k = record { is = rw (← hv, k) refl }

  module _ (er : v ≡ Ok tt) (u : Result ⊤ Checked) (hu : check_cause u ≡ query_fault query) where
    pub query_refused : (e : Checked) → u ≡ Err e → FirstCause image query work (Err (Query e))
    unfolding query_fixed_fault first_of
    query_refused e k = record { is = rw (← hv, er, ← hu, k) refl }

    module _ (es : u ≡ Ok tt) (t : Bool) (ht : t ≡ not (bad_restrictor (parts_of query))) where
      restrictors : not t ≡ bad_restrictor (parts_of query)
      restrictors = ap not ht ∙ twice_not (bad_restrictor (parts_of query))

      pub restrictor_refused : not t ≡ true → FirstCause image query work (Err Restrictor)
      unfolding query_fixed_fault first_of rowless
      restrictor_refused e = record { is = rw (← hv, er, ← hu, es, ← restrictors, e) refl }

      pub work_refused : not t ≡ false → length work < 20000 → FirstCause image query work (Err ShortWork)
      unfolding query_fixed_fault first_of rowless
      work_refused e h = record { is = rw (← hv, er, ← hu, es, ← restrictors, e, lt-ltb (length work) 20000 h) refl }

      pub nothing_refused : not t ≡ false → 20000 ≤ length work → FirstCause image query work (Ok tt)
      unfolding query_fixed_fault first_of rowless
      nothing_refused e h = record { is = rw (← hv, er, ← hu, es, ← restrictors, e, le-ltb (length work) 20000 h) refl }

-- the parts of a query that was accepted stand in their places
pub laid_out : (query : List ℕ) (u : Result ⊤ Checked) → check_cause u ≡ query_fault query → u ≡ Ok tt → bad_layout_lem query ≡ false
laid_out query u hu k = (accepted_fine query (sym hu ∙ rw k)).fine.laid_out
