-- The ways out of the readers of a part; and how long an accepted table is.
use mathlib.Core.Path.{◌≡◌, refl, sym, ◌∙◌}
use mathlib.Core.List.{List}
use mathlib.Core.Bool.{Bool, false, not, true}
use mathlib.Core.Logic.{◌⊎◌, inl, inr}
use mathlib.Core.Option.{none}
use Prim.Native.Nat.{ℕ, ◌+◌, ◌<◌, ◌≤◌, ◌%◌}
use native.Mathlib.Omega.{arith}
use lib.ListN.{drop, get_or, length}
use lib.Seq.{get_or-drop, get_or-take}
use borrow.Author.Tests.{ltb-false, ne_eqb}
use lib.Dec.{eqb}
use Rattle.meaning.specs.Answer.{Restrictor, restrictor_of, simple, trail}
use Rattle.meaning.proofs.Causes.{whole_none}
use Rattle.meaning.proofs.Logic.{or_false_r}
use Rattle.std.specs.Prelude.{if◌then◌else◌}
use Rattle.meaning.specs.Table.{bad_length, pattern_fault}
use Rattle.path.specs.Masks.{base_of}
use Rattle.path.specs.declared.base.Base.TheVariants.{Simple, Trail}
use Rattle.table.proofs.AcceptedTable.{no_causes}
use Rattle.compiled.specs.Parts.{Tabled, restrictor_in, table_in}

module _ (p : List ℕ) (t : Tabled p) (j : ℕ) (h : j < length (table_in p)) where
  pub cell_at : get_or (table_in p) j 0 ≡ get_or p (8 + j) 0
  unfolding table_in
  cell_at = get_or-take (get_or p 0 0) (drop 8 p) j 0 (omega (arith, t.size)) ∙ get_or-drop 8 p j 0

  pub cell_is : (w : ℕ) → w ≡ get_or p (8 + j) 0 → w ≡ get_or (table_in p) j 0
  cell_is w e = e ∙ sym cell_at

  pub cell_small : (w : ℕ) → w ≡ get_or p (8 + j) 0 → w < 65536
  cell_small w e = rw e (t.small j (omega (arith, t.size)))

module _ (p : List ℕ) (n : ℕ) (h : n ≡ get_or p 1 0) where
  pub base_trail : (n ≡ 1) ⊎ (n ≡ 3) → base_of Trail ≡ (restrictor_in p).base
  unfolding restrictor_in restrictor_of
  base_trail (inl e) = rw (← h, e)
  base_trail (inr e) = rw (← h, e)

  pub base_other : (n ≡ 1 → ⊥) → (n ≡ 3 → ⊥) → base_of Simple ≡ (restrictor_in p).base
  unfolding restrictor_in restrictor_of
  base_other a b = rw (← h, ne_eqb n 1 a, ne_eqb n 3 b) (go (eqb n 2))
    where
      go : (c : Bool) → simple ≡ (if◌then◌else◌ {A = Restrictor} c (record { base = simple; shortest = false }) (record { base = simple; shortest = true })).base
      go true = refl
      go false = refl

  pub every_answer : (n ≡ 1) ⊎ (n ≡ 2) → false ≡ (restrictor_in p).shortest
  unfolding restrictor_in restrictor_of
  every_answer (inl e) = rw (← h, e)
  every_answer (inr e) = rw (← h, e)

  pub shortest_other : (n ≡ 1 → ⊥) → (n ≡ 2 → ⊥) → true ≡ (restrictor_in p).shortest
  unfolding restrictor_in restrictor_of
  shortest_other a b = rw (← h, ne_eqb n 1 a, ne_eqb n 2 b) (go (eqb n 3))
    where
      go : (c : Bool) → true ≡ (if◌then◌else◌ {A = Restrictor} c (record { base = trail; shortest = true }) (record { base = simple; shortest = true })).shortest
      go true = refl
      go false = refl

pub accepted_short : (pattern : List ℕ) → pattern_fault pattern ≡ none → length pattern ≤ 320
unfolding bad_length
accepted_short pattern e =
    let b = whole_none 11 (bad_length pattern) (no_causes pattern e).0 in
    ltb-false 320 (length pattern) (or_false_r (eqb (length pattern) 0) _ (or_false_r (not (eqb (length pattern % 5) 0)) _ b))
