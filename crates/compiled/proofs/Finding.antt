-- What each way through the look-up of a label and of a property gives.
use mathlib.Core.Path.{◌≡◌, refl, sym, ap, ◌∙◌}
use mathlib.Core.List.{List}
use mathlib.Core.Bool.{Bool, true, false, ◌&&◌, ◌||◌}
use mathlib.Core.Option.{none, some}
use Rattle.std.specs.Prelude.{None, Option, Some, is_some}
use mathlib.Core.Logic.{◌≢◌}
use Prim.Native.Nat.{ℕ, zero, suc, ◌*◌, ◌+◌, ◌%◌, ◌/◌, ◌<◌, ◌≤◌}
use native.Mathlib.Omega.{arith}
use lib.Dec.{eqb, ltb}
use lib.ListN.{get_or}
use borrow.Author.Tests.{eq-eqb, ne_eqb, eqb-true, eqb-false, ltb-true, ltb-false}
use Rattle.meaning.specs.Image.{some_row_lem}
use Rattle.std.specs.Prelude.{if◌then◌else◌}
use Rattle.meaning.specs.Graph.{Element}
use Rattle.meaning.proofs.Logic.{and_both, both_equal, is_false, or_l, or_r}
use Rattle.compiled.specs.Words.{graph_in, is_below, labels_in, names, number_in, pair_of, properties_in, some_names, value_in, value_of}
use Rattle.compiled.specs.Values as values
use Rattle.compiled.specs.Sound.{FoundBy, Lawful, LowerBound, Rises}

-- ------------------------------------------------------------------ one word
pub names_is : (w x k : ℕ) → k < 65536 → names w x k ≡ eqb (pair_of w) (x * 65536 + k)
unfolding names
names_is w x k h = go (eqb (pair_of w) (x * 65536 + k)) refl
  where
    go : (c : Bool) → eqb (pair_of w) (x * 65536 + k) ≡ c → (eqb (pair_of w / 65536) x && eqb (pair_of w % 65536) k) ≡ c
    go true e =
        let p : pair_of w ≡ x * 65536 + k = eqb-true _ _ e in
        and_both (eq-eqb (pair_of w / 65536) x (omega arith)) (eq-eqb (pair_of w % 65536) k (omega arith))
    go false e =
        let p : pair_of w ≢ x * 65536 + k = eqb-false _ _ e in
        is_false _ (λ t.
        let (a, b) = both_equal (pair_of w / 65536) x (pair_of w % 65536) k t in
        absurd (p (omega arith)))

-- ------------------------------------------------------------------ rows
some_hit : (n i : ℕ) (f : ℕ → Bool) → i < n → f i ≡ true → some_row_lem n f ≡ true
unfolding some_row_lem
some_hit zero i f h t = absurd (omega arith)
some_hit (suc n) i f h t = go (eqb i n) refl (some_hit n i f)
  where
    go : (c : Bool) → eqb i n ≡ c → (i < n → f i ≡ true → some_row_lem n f ≡ true) → (f n || some_row_lem n f) ≡ true
    go true e ih = or_l (f n) (some_row_lem n f) (rw (eqb-true i n e) at t)
    go false e ih =
        let z : i ≢ n = eqb-false i n e in
        or_r (f n) (some_row_lem n f) (ih (omega arith) t)

some_miss : (n : ℕ) (f : ℕ → Bool) → ((i : ℕ) → i < n → f i ≡ false) → some_row_lem n f ≡ false
unfolding some_row_lem
some_miss zero f h = refl
some_miss (suc n) f h = rw (h n (omega arith)) (some_miss n f (λ i l. h i (omega arith)))

-- the n words from `at` on rise
module _ (g : List ℕ) (at n : ℕ) (rise : Rises at n g) where
  abbrev at_row : ℕ → ℕ
  at_row i = get_or g (at + i) 0

  -- no two of them have one pair
  one_row : (i j : ℕ) → i < n → j < n → pair_of (at_row i) ≡ pair_of (at_row j) → i ≡ j
  one_row i j h l e = go (ltb i j) (ltb j i) refl refl
    where
      go : (c d : Bool) → ltb i j ≡ c → ltb j i ≡ d → i ≡ j
      go true d p q = let z : i < j = ltb-true i j p in absurd (omega (arith, rise.is i j z l))
      go false true p q = let z : j < i = ltb-true j i q in absurd (omega (arith, rise.is j i z h))
      go false false p q = omega (arith, ltb-false i j p, ltb-false j i q)

  -- just r of them have a pair below
  module _ (pair r : ℕ) (bound : LowerBound (is_below g at pair) n r) where
    only_row : (i : ℕ) → i < n → pair_of (at_row i) ≡ pair → (r < n) × (i ≡ r)
    unfolding is_below
    only_row i h e = go (ltb i r) (ltb r i) refl refl
      where
        go : (c d : Bool) → ltb i r ≡ c → ltb r i ≡ d → (r < n) × (i ≡ r)
        go true d p q = let z : pair_of (at_row i) < pair = ltb-true _ _ (bound.before i (ltb-true i r p)) in absurd (omega arith)
        go false true p q =
            let l : r < i = ltb-true r i q in
            let z : pair ≤ pair_of (at_row r) = ltb-false _ _ (bound.after r (omega arith) (omega arith)) in
            absurd (omega (arith, rise.is r i l h))
        go false false p q = let z : i ≡ r = omega (arith, ltb-false i r p, ltb-false r i q) in (omega arith, z)

    -- the ways out of `find`
    pub found_past : n ≤ r → FoundBy at n g pair None
    found_past l = record { none_has = λ e i h m. let z : r < n = (only_row i h m).0 in absurd (omega arith); one_has = λ w e. cc }

    module _ (h : r < n) (w : ℕ) (e : w ≡ get_or g (at + r) 0) where
      pub found_other : (w / 17179869184 ≡ pair → ⊥) → FoundBy at n g pair None
      found_other d = record { none_has = λ q i k m. d (ap pair_of e ∙ (ap (λ (j : ℕ). pair_of (at_row j)) (sym (only_row i k m).1) ∙ m)); one_has = λ v q. cc }

      pub found_here : w / 17179869184 ≡ pair → FoundBy at n g pair (Some w)
      found_here d = record { none_has = λ q. cc; one_has = λ v q. let z : w ≡ v = cc in (r, h, sym z ∙ e, ap pair_of (sym z) ∙ d) }

  module _ (x k : ℕ) (small : k < 65536) where
    missing : ((i : ℕ) → i < n → pair_of (at_row i) ≡ x * 65536 + k → ⊥) → (i : ℕ) → i < n → names (at_row i) x k ≡ false
    missing f i h = names_is (at_row i) x k small ∙ ne_eqb _ _ (f i h)

    -- of labels
    none_named : ((i : ℕ) → i < n → names (at_row i) x k ≡ false) → some_names g at n x k ≡ false
    unfolding some_names
    none_named f = some_miss n (λ i. names (at_row i) x k) f

    one_named : (r : ℕ) → r < n → names (at_row r) x k ≡ true → some_names g at n x k ≡ true
    unfolding some_names
    one_named r h t = some_hit n r (λ i. names (at_row i) x k) h t

    -- of properties
    next_value : (m : ℕ) (c : Bool) → names (at_row m) x k ≡ c → value_of g at (suc m) x k ≡ (if c then some (value_in (at_row m)) else value_of g at m x k)
    unfolding value_of
    next_value m true h = rw (value_of, h)
    next_value m false h = rw (value_of, h)

    no_value : (m : ℕ) → m ≤ n → ((i : ℕ) → i < n → names (at_row i) x k ≡ false) → value_of g at m x k ≡ none
    unfolding value_of
    no_value zero l f = refl
    no_value (suc m) l f = next_value m false (f m (omega arith)) ∙ no_value m (omega arith) f

    the_value : (r : ℕ) → r < n → pair_of (at_row r) ≡ x * 65536 + k → (m : ℕ) → m ≤ n → r < m → value_of g at m x k ≡ some (value_in (at_row r))
    the_value r i t zero l h = absurd (omega arith)
    the_value r i t (suc m) l h = go (eqb m r) refl (the_value r i t m)
      where
        go : (c : Bool) → eqb m r ≡ c → (m ≤ n → r < m → value_of g at m x k ≡ some (value_in (at_row r))) → value_of g at (suc m) x k ≡ some (value_in (at_row r))
        go true e ih = let z : m ≡ r = eqb-true m r e in rw z (next_value r true (names_is (at_row r) x k small ∙ eq-eqb _ _ t))
        go false e ih =
            let z : m ≢ r = eqb-false m r e in
            let other : names (at_row m) x k ≡ false = names_is (at_row m) x k small ∙ ne_eqb _ _ (λ d. z (one_row m r (omega arith) i (d ∙ sym t))) in
            next_value m false other ∙ ih (omega arith) (omega arith)

    -- what `find` says of both
    module _ (o : Option ℕ) (f : FoundBy at n g (x * 65536 + k) o) where
      label_found : is_some o ≡ some_names g at n x k
      label_found = go o refl
        where
          go : (p : Option ℕ) → o ≡ p → is_some p ≡ some_names g at n x k
          go None e = sym (none_named (missing (f.none_has e)))
          go (Some w) e =
              let (i, h, is, its) = f.one_has w e in
              sym (one_named i h (names_is (at_row i) x k small ∙ eq-eqb _ _ (ap pair_of (sym is) ∙ its)))

      no_found : o ≡ None → none ≡ value_of g at n x k
      no_found e = sym (no_value n (omega arith) (missing (f.none_has e)))

      value_found : (w : ℕ) → o ≡ Some w → some (w % 17179869184) ≡ value_of g at n x k
      value_found w e =
          let (i, h, is, its) = f.one_has w e in
          ap (λ (v : ℕ). some (value_in v)) is ∙ sym (the_value i h (ap pair_of (sym is) ∙ its) n (omega arith) h)

-- ------------------------------------------------------------------ the ways out of `has_label` and `property`
-- p is the pair that was looked for among n words, and o the word found
module _ (g : List ℕ) (a : Lawful g) (x : Element) (k p n : ℕ) (o : Option ℕ) (small : k < 65536) (pair : p ≡ number_in g x * 65536 + k) where
  pub label_is : n ≡ labels_in g → FoundBy 208 n g p o → is_some o ≡ (graph_in g).label x k
  unfolding graph_in
  label_is count f = label_found g 208 (labels_in g) a.labels_rise (number_in g x) k small o (rw (← pair, ← count) f)

  module _ (count : n ≡ properties_in g) (f : FoundBy 1008 n g p o) where
    its : FoundBy 1008 (properties_in g) g (number_in g x * 65536 + k) o
    its = rw (← pair, ← count) f

    pub value_absent : (r : Option ℕ) → o ≡ None → r ≡ None → values.value_of r ≡ (graph_in g).property x k
    unfolding graph_in
    value_absent r e q = rw q (no_found g 1008 (properties_in g) a.properties_rise (number_in g x) k small o its e)

    pub value_here : (w : ℕ) → o ≡ Some w → some (w % 17179869184) ≡ (graph_in g).property x k
    unfolding graph_in
    value_here w e = value_found g 1008 (properties_in g) a.properties_rise (number_in g x) k small o its w e
