-- A loop that looks for the lowest row with a fault: its invariant as a record, and the laws of its needs.
use mathlib.Core.Path.{◌≡◌, refl, sym, ◌∙◌}
use mathlib.Core.Bool.{Bool, true, false}
use mathlib.Core.Option.{none, some}
use Prim.Native.Nat.{ℕ, suc, ◌+◌, ◌-◌, ◌<◌, ◌≤◌}
use native.Mathlib.Numerals.{add-one}
use native.Mathlib.Omega.{arith}
use Rattle.meaning.specs.Basics.{lowest}

-- of n rows none below i has the fault: what is looked for is looked for from i on
pub record Seeking (f : ℕ → Bool) (n i : ℕ) : Type 0 where
  pub within : i ≤ n
  pub same : lowest n 0 f ≡ lowest (n - i) i f

step : (f : ℕ → Bool) (k i : ℕ) → lowest (suc k) i f ≡ elim (f i) [ true ↦ some i | false ↦ lowest k (suc i) f ]
unfolding lowest
step f k i = refl

pub seek_none : (f : ℕ → Bool) (n : ℕ) → Seeking f n 0
seek_none f n =
    let e : n - 0 ≡ n = omega arith in
    record { within = omega arith; same = rw e }

module _ {f : ℕ → Bool} {n i : ℕ} (s : Seeking f n i) (h : i < n) where
  turn : lowest n 0 f ≡ elim (f i) [ true ↦ some i | false ↦ lowest (n - (i + 1)) (suc i) f ]
  turn =
      let e : n - i ≡ suc (n - (i + 1)) = omega arith in
      s.same ∙ rw e (step f (n - (i + 1)) i)

  pub seek_more : f i ≡ false → Seeking f n (i + 1)
  seek_more e = record { within = omega arith; same = turn ∙ rw (e, add-one i) }

  pub seek_hit : f i ≡ true → lowest n 0 f ≡ some i
  seek_hit e = turn ∙ rw e

pub seek_end : {f : ℕ → Bool} {n i : ℕ} → Seeking f n i → n ≤ i → lowest n 0 f ≡ none
unfolding lowest
seek_end {f} {n} {i} s h =
    let e : n - i ≡ 0 = omega arith in
    s.same ∙ rw e

-- a turn whose test is the answer c of a call, and whose count n has the name m
module _ {f : ℕ → Bool} {n i : ℕ} (s : Seeking f n i) where
  pub seek_more_by : (c : Bool) → i < n → c ≡ f i → c ≡ false → Seeking f n (i + 1)
  seek_more_by c h d e = seek_more s h (sym d ∙ e)

  pub seek_hit_by : (m : ℕ) (c : Bool) → n ≡ m → i < n → c ≡ f i → c ≡ true → some i ≡ lowest m 0 f
  seek_hit_by m c q h d e = sym (rw q at (seek_hit s h (sym d ∙ e)))

  pub seek_end_by : (m : ℕ) → n ≡ m → n ≤ i → none ≡ lowest m 0 f
  seek_end_by m q h = sym (rw q at (seek_end s h))
