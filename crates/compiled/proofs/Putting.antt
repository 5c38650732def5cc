-- The loops that put words one by one.
use mathlib.Core.Path.{◌≡◌, refl, ◌∙◌}
use mathlib.Core.List.{List}
use mathlib.Core.Bool.{Bool, true, false}
use mathlib.Core.Logic.{◌≢◌}
use Prim.Native.Nat.{ℕ, ◌+◌, ◌<◌, ◌≤◌}
use native.Mathlib.Omega.{arith}
use lib.Dec.{eqb}
use lib.ListN.{get_or, length, length-set, set}
use lib.Seq.{get_or-set_other, get_or-set_same}
use borrow.Author.Tests.{eqb-false, eqb-true}
use Rattle.compiled.specs.Copies.{Put}

module _ (at : ℕ) (P : ℕ → ℕ → Type 0) where
  pub put_none : (g : List ℕ) → Put at P 0 g g
  put_none g = record { here = λ i h. absurd (omega arith); low = λ j h. refl; high = λ j h. refl; long = refl }

  pub put_more : (n m w : ℕ) (g₀ g : List ℕ) → n < m → at + m ≤ length g₀ → Put at P n g₀ g → P n w → Put at P (n + 1) g₀ (set g (at + n) w)
  put_more n m w g₀ g more room k q = record {
    here = λ i h. go i h (eqb i n) refl;
    low = λ j h. get_or-set_other g (at + n) j w 0 (λ z. omega arith) ∙ k.low j h;
    high = λ j h. get_or-set_other g (at + n) j w 0 (λ z. omega arith) ∙ k.high j (omega arith);
    long = length-set g (at + n) w ∙ k.long;
  }
    where
      go : (i : ℕ) → i < n + 1 → (c : Bool) → eqb i n ≡ c → P i (get_or (set g (at + n) w) (at + i) 0)
      go i h true e = rw (eqb-true i n e, get_or-set_same g (at + n) w 0 (omega (arith, k.long))) q
      go i h false e =
          let z : i ≢ n = eqb-false i n e in
          rw (get_or-set_other g (at + n) (at + i) w 0 (λ d. omega arith)) (k.here i (omega arith))

  pub put_all : (n m : ℕ) (g₀ g : List ℕ) → Put at P n g₀ g → n ≤ m → m ≤ n → Put at P m g₀ g
  put_all n m g₀ g k a b = let e : m ≡ n = omega arith in rw e k
