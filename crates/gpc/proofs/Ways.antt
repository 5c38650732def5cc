-- What each way through an operation leaves.
use mathlib.Core.Path.{◌≡◌, refl, sym, ◌∙◌}
use mathlib.Core.Bool.{Bool, true, false, not}
use mathlib.Core.Option.{some}
use mathlib.Core.List.{List}
use Prim.Native.Nat.{ℕ, ◌≤◌}
use lib.Dec.{leb, ltb}
use lib.ListN.{length}
use borrow.Author.Tests.{leb-true, leb-false, le-ltb, lt-ltb}
use Rattle.meaning.proofs.Logic.{not_true, not_false}
use Rattle.std.specs.Prelude.{if◌then◌else◌, Result, ⊤}
use Rattle.meaning.specs.Basics.{Cause}
use Rattle.meaning.specs.Image.{image_fault}
use Rattle.meaning.specs.Report.{over, cause_bytes, wide_enough_lem}
use Rattle.meaning.specs.Operations.{ReadLeft, read_image, CheckLeft}
use Rattle.meaning.specs.QueryListing.{check_query, types_or_zeros}
use Rattle.meaning.specs.QueryWords.{query_fault}
use Rattle.query.specs.declared.causes.Refusal.{Refusal}
use Rattle.query.specs.Verdict.{cause_of}
use Rattle.query.specs.TypeArea.{TypesLeft}

-- the test of a report area d, whose answer is s
module _ (d : List ℕ) where
  pub short_is : ltb (length d) 64 ≡ not (wide_enough_lem d)
  unfolding wide_enough_lem
  short_is = go (leb 64 (length d)) refl
    where
      go : (b : Bool) → leb 64 (length d) ≡ b → ltb (length d) 64 ≡ not b
      go true e = le-ltb (length d) 64 (leb-true 64 (length d) e)
      go false e = lt-ltb (length d) 64 (leb-false 64 (length d) e)

  pub wide_is : (s : Bool) → s ≡ not (wide_enough_lem d) → s ≡ false → wide_enough_lem d ≡ true
  wide_is s e f = not_false (wide_enough_lem d) (sym e ∙ f)

  pub narrow_is : (s : Bool) → s ≡ not (wide_enough_lem d) → s ≡ true → wide_enough_lem d ≡ false
  narrow_is s e f = not_true (wide_enough_lem d) (sym e ∙ f)

  pub wide_enough : (s : Bool) → s ≡ not (wide_enough_lem d) → s ≡ false → 64 ≤ length d
  unfolding wide_enough_lem
  wide_enough s e f = leb-true 64 (length d) (wide_is s e f)

-- b is the image, d the report's bytes
module _ (image d : List ℕ) where
  pub no_report : (s : Bool) → s ≡ not (wide_enough_lem d) → s ≡ true → ◌≡◌ {A = ReadLeft} (record { result = 0; report = d }) (read_image image d)
  unfolding read_image
  no_report s e f = rw (narrow_is d s e f)

  pub reported : (s : Bool) → s ≡ not (wide_enough_lem d) → s ≡ false → (c : Cause) → c ≡ image_fault image → (d' : List ℕ) → d' ≡ over (cause_bytes c) d
      → ◌≡◌ {A = ReadLeft} (record { result = 1; report = d' }) (read_image image d)
  unfolding read_image
  reported s h f c e d' w = rw (wide_is d s h f, ← e, w)

-- w is the query, t the type area, d the report's bytes
module _ (w t d : List ℕ) where
  pub no_check : (s : Bool) → s ≡ not (wide_enough_lem d) → s ≡ true → ◌≡◌ {A = CheckLeft} (record { result = 0; types = t; report = d }) (check_query w t d)
  unfolding check_query
  no_check s e f = rw (narrow_is d s e f)

  -- what a call with a report area leaves, by whether the type area is too short
  checked_by : (short : Bool) (c : Cause) (t' : List ℕ) → c ≡ (if short then some (17, 0) else query_fault w) → t' ≡ (if short then t else over (types_or_zeros (query_fault w) w) t)
      → ◌≡◌ {A = CheckLeft} (record { result = 1; types = t'; report = over (cause_bytes c) d })
      (if short then record { result = 1; types = t; report = over (cause_bytes (some (17, 0))) d } else record { result = 1; types = over (types_or_zeros (query_fault w) w) t; report = over (cause_bytes (query_fault w)) d })
  checked_by true c t' e f = rw (e, f) refl
  checked_by false c t' e f = rw (e, f) refl

  pub checked : (s : Bool) → s ≡ not (wide_enough_lem d) → s ≡ false → (v : Result ⊤ Refusal) (t' : List ℕ) → TypesLeft w t t' v → (d' : List ℕ) → d' ≡ over (cause_bytes (cause_of v)) d
      → ◌≡◌ {A = CheckLeft} (record { result = 1; types = t'; report = d' }) (check_query w t d)
  unfolding check_query
  checked s h f v t' k d' e =
      rw (wide_is d s h f, e) (checked_by (ltb (length t) 72) (cause_of v) t' k.verdict_is k.types_are)
