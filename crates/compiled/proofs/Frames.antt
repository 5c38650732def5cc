-- What is put behind the first 328 words of a plan changes neither table nor restrictor.
use mathlib.Core.Path.{◌≡◌, refl, ap, sym, ◌∙◌}
use mathlib.Core.List.{List}
use Prim.Native.Nat.{ℕ, ◌+◌, ◌-◌, ◌<◌, min}
use native.Mathlib.Omega.{arith}
use lib.ListN.{drop, get_or, length, length-drop, length-take, take}
use lib.Seq.{ext_get_or, get_or-drop, get_or-take}
use Rattle.meaning.specs.Answer.{restrictor_of}
use Rattle.meaning.specs.Table.{pattern_fault}
use Rattle.compiled.specs.Parts.{HeadKept, Tabled, restrictor_in, table_in}
use Rattle.compiled.specs.Sound.{Sound}

module _ (p q : List ℕ) (t : Tabled p) (k : HeadKept p q) where
  wide : (r : List ℕ) → length r ≡ length p → length (take (get_or p 0 0) (drop 8 r)) ≡ min (get_or p 0 0) (length p - 8)
  wide r e = length-take (get_or p 0 0) (drop 8 r) ∙ ap (min (get_or p 0 0)) (length-drop 8 r ∙ ap (λ (n : ℕ). n - 8) e)

  pub table_kept : table_in q ≡ table_in p
  unfolding table_in
  table_kept = rw (k.low 0 (omega arith)) (ext_get_or 0 (take (get_or p 0 0) (drop 8 q)) (take (get_or p 0 0) (drop 8 p)) (wide q k.long ∙ sym (wide p refl))
      (λ i h. let l : i < get_or p 0 0 = omega (arith, wide q k.long) in
      get_or-take (get_or p 0 0) (drop 8 q) i 0 l ∙ get_or-drop 8 q i 0 ∙ k.low (8 + i) (omega (arith, t.short)) ∙ sym (get_or-drop 8 p i 0) ∙ sym (get_or-take (get_or p 0 0) (drop 8 p) i 0 l)))

  pub restrictor_kept : restrictor_in q ≡ restrictor_in p
  unfolding restrictor_in
  restrictor_kept = ap restrictor_of (k.low 1 (omega arith))

  pub tabled_kept : Tabled q
  tabled_kept =
      let z : get_or q 0 0 ≡ get_or p 0 0 = k.low 0 (omega arith) in
      record {
        size = ap length table_kept ∙ t.size ∙ sym z;
        short = omega (arith, t.short);
        small = λ j h. rw (k.low (8 + j) (omega (arith, t.short))) (t.small j (omega arith));
      }

  pub sound_kept : (g : List ℕ) → Sound g p → Sound g q
  sound_kept g s = record { lawful = s.lawful; tabled = tabled_kept; accepted = ap pattern_fault table_kept ∙ s.accepted }
