-- The ends of the values of all variables. Assumes nothing.
use mathlib.Core.Path.{◌∙◌, ◌≡◌, ap, refl, sym}
use mathlib.Core.List.{List}
use Prim.Native.Nat.{◌≤◌, ℕ}
use native.Mathlib.Omega.{arith}
use lib.ListN.{get_or, length, take}
use Rattle.matcher.specs.Values.{after_view, option_bind}
use Rattle.records.proofs.Ends.{end_low}
use Rattle.records.proofs.Firsts.{view_in, view_out}
use Rattle.records.proofs.Moves.{Made, views_are}
use Rattle.records.specs.Ends.{EndsAll, EndsAt, EndsOne}
use Rattle.records.specs.Places.{views_of}

pub end_of : (ks types at : List ℕ) (x t place r : ℕ) → t ≡ get_or types x 0 → place ≡ get_or at x 0 → EndsAt ks t place r → EndsOne ks types at x r
end_of ks types at x t place r e q h = record { end = rw (sym e, sym q) h }

pub end_unused : (rec : List ℕ) (known : ℕ) (types at : List ℕ) (x t : ℕ) → known ≤ length rec → known ≤ 20000 → t ≡ get_or types x 0 → t ≡ 0 → EndsOne (take known rec) types at x 65535
end_unused rec known types at x t k b e z = end_of (take known rec) types at x t (get_or at x 0) 65535 e refl (end_low rec known t (get_or at x 0) k b (omega arith))

pub ends_all : (ks types at to : List ℕ) (x : ℕ) → Made (EndsOne ks types at) to x → 9 ≤ x → EndsAll ks types at to
unfolding after_view option_bind
ends_all ks types at to x h l = record {
  is = λ f ty mask vars. views_are ks to mask (λ y. after_view (f y) (views_of ks at mask y)) vars
      (λ y a b e. (h.is y a (omega (arith, h.high))).end.is (f y) (ty y a b) ∙ ap (after_view (f y)) (sym (view_in ks at mask y e)))
      (λ y e. ap (after_view (f y)) (sym (view_out ks at mask y e)));
}
