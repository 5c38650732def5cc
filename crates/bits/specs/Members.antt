-- The members of a set in turn: what a call of `next` gives, and what a loop over them keeps.
use Rattle.std.specs.Prelude.{◌≡◌, List, ℕ, ◌+◌, ◌-◌, ◌<◌, Option, None, Some}
use Rattle.std.specs.Iterator.{Count, at_most}
use Rattle.bits.specs.Sets.{Least, set_of}
use Rattle.bits.specs.declared.members.Members.{Members}

-- no more come than numbers from `from` on
abbrev pub members_left : Members → Count
members_left m = at_most (256 - m.from)

-- the least member from `from` on is given, and those behind it are still to come; or there is none
abbrev pub NextMember : Members → Option ℕ → Members → Type 0
NextMember old None new = Least (set_of old.set.w) 256 old.from 256
NextMember old (Some k) new = Least (set_of old.set.w) 256 old.from k × (k < 256) × (new.set.w ≡ old.set.w) × (new.from ≡ k + 1)

-- a loop over the members of the set w has come so far that P holds of the next of them, or of 256 if none is left
pub record Walked (w : List ℕ) (P : ℕ → Type 0) (m : Members) : Type 0 where
  pub same : m.set.w ≡ w
  pub next : (n : ℕ) → Least (set_of w) 256 m.from n → P n
