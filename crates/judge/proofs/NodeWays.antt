-- The loop over the nodes of a path. Assumes nothing.
use mathlib.Core.Path.{◌≡◌}
use mathlib.Core.Bool.{true, false}
use mathlib.Core.List.{List}
use Prim.Native.Nat.{ℕ, ◌+◌, ◌*◌, ◌<◌, ◌≤◌}
use native.Mathlib.Omega.{arith}
use lib.ListN.{get_or}
use Rattle.bits.proofs.Cases.{by_ltb}
use Rattle.meaning.proofs.Logic.{no_false, no_true}
use Rattle.judge.specs.Judging.{NodesWithin}

module _ (rec : List ℕ) (last count : ℕ) where
  -- the nodes before position i are below count
  pub record NodesPassed (i : ℕ) : Type 0 where
    pub upto : i ≤ last + 1
    pub before : (k : ℕ) → k < i → get_or rec (2 * k + 1) 0 < count

  pub passed_none : NodesPassed 0
  passed_none = record { upto = omega arith; before = λ k h. absurd (omega arith) }

  pub passed_hit : (i w : ℕ) → i ≤ last → w ≡ get_or rec (2 * i + 1) 0 → count ≤ w → NodesWithin rec last count false
  passed_hit i w l e h = record { yes_is = λ q. no_false q; no_is = λ q. (i, l, omega arith) }

  pub passed_more : (i w : ℕ) → NodesPassed i → i ≤ last → w ≡ get_or rec (2 * i + 1) 0 → w < count → NodesPassed (i + 1)
  passed_more i w p l e h = record {
    upto = omega arith;
    before = λ k b. by_ltb k i (p.before k) (λ o. let z : i ≡ k = omega arith in rw z at (rw e at h));
  }

  pub passed_all : (i : ℕ) → NodesPassed i → last < i → NodesWithin rec last count true
  passed_all i p l = record { yes_is = λ q. record { node = λ k b. p.before k (omega arith) }; no_is = λ q. no_true q }
