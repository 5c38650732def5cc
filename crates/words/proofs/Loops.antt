-- The loop that copies words, with a law for each of its needs: it begins, it goes on, it is done.
use mathlib.Core.Path.{◌≡◌, refl, ◌∙◌}
use mathlib.Core.List.{List, ◌++◌}
use Prim.Native.Nat.{ℕ, ◌+◌, ◌<◌, ◌≤◌}
use native.Mathlib.Numerals.{add-one}
use native.Mathlib.Omega.{arith}
use lib.ListN.{length, take, drop, set, get_or, length-set}
use lib.Seq.{paste, paste-zero, paste-suc, take-length}

-- the first i words of s stand in d from index a on, and the rest is as it was
pub record Pasted (a : ℕ) (s d₀ d : List ℕ) (i : ℕ) : Type 0 where
  pub within : i ≤ length s
  pub room : a + length s ≤ length d₀
  pub long : length d ≡ length d₀
  pub is : d ≡ paste d₀ a s i

pub pasted_none : {a : ℕ} {s d : List ℕ} → a + length s ≤ length d → Pasted a s d d 0
pasted_none {a} {s} {d} h = record { within = omega arith; room = h; long = refl; is = paste-zero d a s }

module _ {a : ℕ} {s d₀ d : List ℕ} {i : ℕ} where
  pub pasted_more : Pasted a s d₀ d i → i < length s → Pasted a s d₀ (set d (a + i) (get_or s i 0)) (i + 1)
  pasted_more f h = record {
    within = omega arith;
    room = f.room;
    long = length-set d (a + i) (get_or s i 0) ∙ f.long;
    is = rw (f.is, add-one) (paste-suc d₀ a s i 0 (omega (arith, f.room)) h);
  }

  pub pasted_all : Pasted a s d₀ d i → length s ≤ i → d ≡ take a d₀ ++ s ++ drop (a + length s) d₀
  pasted_all f h =
      let e : i ≡ length s = omega (arith, f.within) in
      f.is ∙ rw (e, take-length s)
