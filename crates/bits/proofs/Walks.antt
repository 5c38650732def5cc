-- A loop over the members of a set: how it begins, goes on and ends. Assumes nothing.
use mathlib.Core.Path.{◌≡◌, ◌∙◌}
use mathlib.Core.List.{List}
use Prim.Native.Nat.{ℕ, ◌+◌}
use Rattle.std.specs.Prelude.{Some}
use Rattle.bits.specs.Sets.{Least, set_of}
use Rattle.bits.specs.Members.{NextMember, Walked}
use Rattle.bits.specs.declared.members.Members.{Members}

module _ {w : List ℕ} {P : ℕ → Type 0} {m : Members} where
  pub walked_first : m.set.w ≡ w → m.from ≡ 0 → ((n : ℕ) → Least (set_of w) 256 0 n → P n) → Walked w P m
  walked_first e f p = record { same = e; next = λ n l. p n (rw f at l) }

  pub walked_end : Walked w P m → Least (set_of m.set.w) 256 m.from 256 → P 256
  walked_end k s = k.next 256 (rw k.same at s)

  module _ {t : Members} {e : ℕ} (k : Walked w P m) (s : NextMember m (Some e) t) where
    -- where the loop stands, P holds of the member
    pub walked_here : P e
    walked_here = k.next e (rw k.same at s.0)

    pub walked_more : {Q : ℕ → Type 0} → (P e → (n : ℕ) → Least (set_of w) 256 (e + 1) n → Q n) → Walked w Q t
    walked_more q = record {
      same = s.2 ∙ k.same;
      next = λ n l. q walked_here n (rw s.3 at l);
    }
