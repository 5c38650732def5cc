-- The ways out of the functions on slots.
use mathlib.Core.Path.{◌≡◌, refl, sym, ap, ◌∙◌}
use mathlib.Core.List.{List, [], ◌∷◌, map}
use Prim.Native.Nat.{ℕ, zero, suc, ◌<◌}
use native.Mathlib.Omega.{arith}
use lib.ListN.{get_or, length, replicate, set}
use lib.Seq.{get_or-set_same, get_or-set_other}
use Rattle.std.specs.Prelude.{None, Option}
use Rattle.compiled.specs.declared.ids.Element.{Element}
use Rattle.conditions.specs.declared.bound.Bound.{Bound}
use Rattle.conditions.specs.Bound.{Rebound, Unbound, binding_of, bound_of}

-- what is known of an array's length speaks of the list of its elements' machine values
pub length_mapped : (X Y : Type 0) (f : X → Y) (l : List X) (n : ℕ) → length (map f l) ≡ n → length l ≡ n
length_mapped X Y f l n e = sym (same l) ∙ e
  where
    same : (l : List X) → length (map f l) ≡ length l
    same [] = refl
    same (x ∷ l) = ap suc (same l)

same_slots : (n x : ℕ) → get_or {A = Option Element} (replicate n None) x None ≡ None
same_slots zero x = refl
same_slots (suc n) zero = refl
same_slots (suc n) (suc x) = same_slots n x

pub unbound : Unbound (record { slots = replicate 9 None })
unfolding bound_of
unbound = record { is = λ x. ap binding_of (same_slots 9 x) }

module _ (b : Bound) (x : ℕ) (k : Option Element) where
  pub rebound : length b.slots ≡ 9 → x < 9 → Rebound b x k (record { slots = set b.slots x k })
  unfolding bound_of
  rebound l h = record {
    here = ap binding_of (get_or-set_same b.slots x k None (omega arith));
    other = λ y n. ap binding_of (get_or-set_other b.slots x y k None n);
  }
