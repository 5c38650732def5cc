-- The loop that halves the words in which a pair can stand.
use mathlib.Core.Path.{◌≡◌, refl}
use mathlib.Core.List.{List}
use mathlib.Core.Bool.{Bool, true, false}
use mathlib.Core.Logic.{◌≢◌}
use Prim.Native.Nat.{ℕ, ◌+◌, ◌-◌, ◌/◌, ◌<◌, ◌≤◌}
use native.Mathlib.Omega.{arith}
use lib.Dec.{eqb}
use lib.ListN.{get_or}
use borrow.Author.Tests.{eqb-false, eqb-true, le-ltb, lt-ltb}
use Rattle.compiled.specs.Words.{is_below, pair_of}
use Rattle.compiled.specs.Sound.{LowerBound, Rises}

module _ (g : List ℕ) (at pair n : ℕ) where
  -- of n words those below low have a pair below, and those from high on have not
  pub record Narrowing (low high : ℕ) : Type 0 where
    pub within : low ≤ high
    pub room : high ≤ n
    pub before : (i : ℕ) → i < low → pair_of (get_or g (at + i) 0) < pair
    pub after : (i : ℕ) → high ≤ i → i < n → pair ≤ pair_of (get_or g (at + i) 0)

  pub narrow_none : Narrowing 0 n
  narrow_none = record { within = omega arith; room = omega arith; before = λ i h. absurd (omega arith); after = λ i h l. absurd (omega arith) }

  module _ (r : Rises at n g) (low high w : ℕ) (k : Narrowing low high) (h : low < high) (e : w ≡ get_or g (at + (low + (high - low) / 2)) 0) where
    rising : (i j : ℕ) → i ≤ j → j < n → pair_of (get_or g (at + i) 0) ≤ pair_of (get_or g (at + j) 0)
    rising i j l m = go (eqb i j) refl
      where
        go : (c : Bool) → eqb i j ≡ c → pair_of (get_or g (at + i) 0) ≤ pair_of (get_or g (at + j) 0)
        go true q = rw (eqb-true i j q) (omega arith)
        go false q =
            let z : i ≢ j = eqb-false i j q in
            omega (arith, r.is i j (omega arith) m)

    pub narrow_up : w / 17179869184 < pair → Narrowing (low + (high - low) / 2 + 1) high
    narrow_up f = record {
      within = omega arith;
      room = k.room;
      before = λ i l. let q : w / 17179869184 ≡ pair_of (get_or g (at + (low + (high - low) / 2)) 0) = rw e in omega (arith, rising i (low + (high - low) / 2) (omega arith) (omega (arith, k.room)));
      after = k.after;
    }

    pub narrow_down : pair ≤ w / 17179869184 → Narrowing low (low + (high - low) / 2)
    narrow_down f = record {
      within = omega arith;
      room = omega (arith, k.room);
      before = k.before;
      after = λ i l m. let q : w / 17179869184 ≡ pair_of (get_or g (at + (low + (high - low) / 2)) 0) = rw e in omega (arith, rising (low + (high - low) / 2) i l m);
    }

  pub narrowed : (low high : ℕ) → Narrowing low high → high ≤ low → LowerBound (is_below g at pair) n low
  unfolding is_below
  narrowed low high k h = record {
    within = omega (arith, k.room, k.within);
    before = λ i l. lt-ltb _ _ (k.before i l);
    after = λ i l m. le-ltb _ _ (k.after i (omega arith) m);
  }
