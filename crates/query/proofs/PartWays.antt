-- The ways through the looks at every part: its restrictor, its pattern.
use mathlib.Core.Path.{◌∙◌, ◌≡◌, ap, sym}
use mathlib.Core.List.{List}
use mathlib.Core.Option.{none, some}
use mathlib.Core.Bool.{Bool, false, true, not, ◌&&◌, ◌||◌}
use Prim.Native.Nat.{ℕ, suc, ◌+◌, ◌-◌, ◌<◌, ◌≤◌}
use native.Mathlib.Omega.{arith}
use lib.Dec.{leb}
use lib.ListN.{drop, take}
use Rattle.meaning.specs.Basics.{Cause, first_of}
use Rattle.meaning.specs.QueryWords.{bad_restrictor, parts_fault, parts_of}
use Rattle.meaning.specs.Table.{pattern_fault}
use Rattle.query.proofs.Behind.{Behind, behind_all, behind_more}
use Rattle.query.proofs.PartLaws.{from_part}
use Rattle.query.specs.Parts.{PartIs, PartsCounted}
use Rattle.query.specs.declared.layout.Part.{Part as PartRead}
use Rattle.std.specs.Prelude.{Result, Ok, Err, ⊤}
use Rattle.table.specs.Verdict.{cause_of, told_of}
use Rattle.table.specs.declared.causes.Refusal.{Refusal}

-- ------------------------------------------------------------------ restrictors_fine
module _ (query : List ℕ) (i n : ℕ) (b : Behind bad_restrictor query 0 i) (c : PartsCounted query n) where
  module _ (part : PartRead) (h : i < n) (p : PartIs query i part) (r : Bool) (told : r ≡ (leb 1 part.restrictor && leb part.restrictor 4)) where
    restrictor_at : bad_restrictor (drop i (parts_of query)) ≡ (not r || bad_restrictor (drop (suc i) (parts_of query)))
    unfolding bad_restrictor
    restrictor_at = ap bad_restrictor (from_part query i part p (omega (arith, c.is))) ∙ ap (λ (t : Bool). not t || bad_restrictor (drop (suc i) (parts_of query))) (sym told)

    pub restrictor_bad : not r ≡ true → false ≡ not (bad_restrictor (parts_of query))
    restrictor_bad e = sym (ap not (b.is ∙ restrictor_at ∙ ap (λ (t : Bool). t || bad_restrictor (drop (suc i) (parts_of query))) e))

    pub restrictor_fine : not r ≡ false → Behind bad_restrictor query 0 (i + 1)
    restrictor_fine e = behind_more bad_restrictor query 0 i n b c h (restrictor_at ∙ ap (λ (t : Bool). t || bad_restrictor (drop (suc i) (parts_of query))) e)

  pub restrictors_all : n ≤ i → true ≡ not (bad_restrictor (parts_of query))
  unfolding bad_restrictor
  restrictors_all h = sym (ap not (behind_all bad_restrictor query 0 i n b c h))

-- ------------------------------------------------------------------ check_patterns
module _ (query : List ℕ) (i n : ℕ) (b : Behind parts_fault query 0 i) (c : PartsCounted query n) where
  -- o is what the check of the part's pattern told
  module _ (part : PartRead) (h : i < n) (p : PartIs query i part) (o : Result ⊤ Refusal) (told : cause_of o ≡ pattern_fault (take (part.to - part.from) (drop part.from query))) where
    pattern_at : parts_fault (drop i (parts_of query)) ≡ first_of (cause_of o) (parts_fault (drop (suc i) (parts_of query)))
    unfolding parts_fault
    pattern_at = ap parts_fault (from_part query i part p (omega (arith, c.is))) ∙ ap (λ (d : Cause). first_of d (parts_fault (drop (suc i) (parts_of query)))) (sym told)

    pub pattern_bad : (e : Refusal) → o ≡ Err e → some (told_of e) ≡ parts_fault (parts_of query)
    unfolding first_of
    pattern_bad e k = sym (b.is ∙ pattern_at ∙ rw k)

    pub pattern_fine : o ≡ Ok tt → Behind parts_fault query 0 (i + 1)
    unfolding first_of
    pattern_fine k = behind_more parts_fault query 0 i n b c h (pattern_at ∙ rw k)

  pub patterns_all : n ≤ i → none ≡ parts_fault (parts_of query)
  unfolding parts_fault
  patterns_all h = sym (behind_all parts_fault query 0 i n b c h)
