-- The loop over the numbers of edges below n. Assumes nothing.
use mathlib.Core.Path.{◌≡◌}
use mathlib.Core.Bool.{Bool, true, false}
use mathlib.Core.List.{List}
use Prim.Native.Nat.{ℕ, ◌+◌, ◌<◌, ◌≤◌}
use native.Mathlib.Omega.{arith}
use Rattle.compiled.specs.Parts.{pattern_in_lem}
use Rattle.compiled.specs.Sound.{Sound}
use Rattle.bits.proofs.Cases.{by_ltb}
use Rattle.bits.specs.Sets.{Least, set_of}
use Rattle.bounds.specs.Lengths.{OnlyLengths}
use Rattle.walk.proofs.RecordEnds.{length_joins}
use Rattle.meaning.proofs.Logic.{no_false, no_true}
use Rattle.compiled.specs.Words.{graph_in}
use Rattle.promises.specs.Goals.{base_in}
use Rattle.promises.specs.Walked.{JoinsIs}
use Rattle.search.proofs.Joined.{none_below_0, none_below_next}
use Rattle.search.specs.Joined.{NoneBelow}
use Rattle.judge.specs.Judging.{NoneShorter}

module _ (graph plan : List ℕ) (n u v : ℕ) where
  -- none with fewer than m edges
  pub record NoneYet (m : ℕ) : Type 0 where
    pub below : NoneBelow (graph_in graph) (base_in plan) (pattern_in_lem plan) m u v

  -- no match has a length before the next
  jump : (w : List ℕ) (m k : ℕ) → Sound graph plan → OnlyLengths plan w → Least (set_of w) 256 m k → NoneBelow (graph_in graph) (base_in plan) (pattern_in_lem plan) m u v → NoneYet k
  jump w m k h o l p = record { below = λ i a j. by_ltb i m (λ b. p i b j) (λ b. length_joins graph plan h i u (o.dead graph h.lawful i (omega (arith, l.within)) (l.before i b a)) v j) }

  pub none_first : (w : List ℕ) (k : ℕ) → Sound graph plan → OnlyLengths plan w → Least (set_of w) 256 0 k → NoneYet k
  none_first w k h o l = jump w 0 k h o l (none_below_0 (graph_in graph) (base_in plan) (pattern_in_lem plan) u v)

  pub none_more : (w : List ℕ) (m k : ℕ) (r : Bool) → Sound graph plan → OnlyLengths plan w → NoneYet m → JoinsIs graph plan m u v r → r ≡ false → Least (set_of w) 256 (m + 1) k → NoneYet k
  none_more w m k r h o p j e l = jump w (m + 1) k h o l (none_below_next (graph_in graph) (base_in plan) (pattern_in_lem plan) u v m p.below (j.no_is e))

  pub none_hit : (m : ℕ) (r : Bool) → m < n → JoinsIs graph plan m u v r → r ≡ true → NoneShorter graph plan n u v false
  none_hit m r l j e = record { yes_is = λ q. no_false q; no_is = λ q. (m, l, j.yes_is e) }

  pub none_all : (m : ℕ) → NoneYet m → n ≤ m → NoneShorter graph plan n u v true
  none_all m p l = record { yes_is = λ q k i. p.below k (omega arith); no_is = λ q. no_true q }
