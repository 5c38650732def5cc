-- The loop over the factors of a group. Assumes nothing.
use mathlib.Core.Path.{◌∙◌, ◌≡◌, ap, refl, sym}
use mathlib.Core.List.{List, [], ◌∷◌}
use mathlib.Core.Option.{Option, none, some}
use Prim.Native.Nat.{◌*◌, ◌+◌, ◌-◌, ◌<◌, ◌≤◌, suc, zero, ℕ}
use native.Mathlib.Omega.{arith}
use lib.ListN.{get_or, length, take}
use lib.Seq.{length-take-le}
use Rattle.matcher.specs.Values.{after_entry, after_value, iterate, option_bind, skip}
use Rattle.matcher.proofs.Opened.{matcher_opened}
use Rattle.matcher.proofs.Places.{view_skip, view_at}
use Rattle.meaning.specs.Typing.{Ty, typed}
use Rattle.records.proofs.Ends.{at, nowhere, view_past}
use Rattle.typecode.specs.Codes.{code_of, ty_code}
use Rattle.records.specs.Ends.{EndsAt, EndsGroup}

-- what comes after `count` factors from `from` on comes after `left` from `place` on
pub record Grouping (ks : List ℕ) (t from count place left : ℕ) : Type 0 where
  pub is : (τ : Ty) → t ≡ ty_code τ → option_bind (view_at ks from) (iterate count (after_entry (after_value τ))) ≡ option_bind (view_at ks place) (iterate left (after_entry (after_value τ)))
  pub small : place < 65536

pub group_start : (ks : List ℕ) (known t from count : ℕ) → known ≤ 20000 → from ≤ known → Grouping ks t from count from count
group_start ks known t from count h l = record { is = λ τ e. refl; small = omega arith }

pub group_none : (ks : List ℕ) (known t from count : ℕ) → known ≤ 20000 → from ≤ known → Grouping ks t from count from (count - 0)
group_none ks known t from count h l = let e : count - 0 ≡ count = omega arith in rw e (group_start ks known t from count h l)

pub group_done : (ks : List ℕ) (t from count place left : ℕ) → Grouping ks t from count place left → left ≤ 0 → EndsGroup ks t from count place
unfolding option_bind iterate
group_done ks t from count place left g l = record { is = λ τ e. sym (g.is τ e ∙ ends τ left (view_at ks place) (omega arith)); small = g.small }
  where
    ends : (τ : Ty) (n : ℕ) (o : Option (List ℕ)) → n ≡ 0 → option_bind o (iterate n (after_entry (after_value τ))) ≡ o
    ends τ n none e = refl
    ends τ n (some us) e = ap (λ (i : ℕ). iterate i (after_entry (after_value τ)) us) e

module _ (rec : List ℕ) (known t from count place left : ℕ) (in_rec : known ≤ length rec) (bound : known ≤ 20000) where
  pub group_unknown : Grouping (take known rec) t from count place left → 0 < left → known ≤ place → EndsGroup (take known rec) t from count 65535
  unfolding matcher_opened
  group_unknown g n l = record { is = λ τ e. nowhere rec known t place in_rec bound ∙ sym (g.is τ e ∙ view_past (take known rec) place (omega (arith, length-take-le known rec in_rec)) (iterate left (after_entry (after_value τ))) (nothing τ left n)); small = omega arith }
    where
      nothing : (τ : Ty) (c : ℕ) → 0 < c → iterate c (after_entry (after_value τ)) [] ≡ none
      nothing τ zero n = absurd (omega arith)
      nothing τ (suc c) n = refl

  one_more : (c : ℕ) (f : List ℕ → Option (List ℕ)) (us : List ℕ) → 0 < c → iterate c f us ≡ option_bind (f us) (iterate (c - 1) f)
  unfolding iterate
  one_more zero f us n = absurd (omega arith)
  one_more (suc c) f us n = let e : suc c - 1 ≡ c = omega arith in rw e refl

  pub group_more : (edges size next : ℕ) → Grouping (take known rec) t from count place left → 0 < left → place < known → edges ≡ get_or rec place 0 → size ≡ 2 * edges + 2 → EndsAt (take known rec) t (place + size) next →
      Grouping (take known rec) t from count next (left - 1)
  unfolding matcher_opened code_of
  group_more edges size next g n l q s h = record { is = go; small = h.small }
    where
      go : (τ : Ty) → t ≡ ty_code τ → option_bind (view_at (take known rec) from) (iterate count (after_entry (after_value τ))) ≡ option_bind (view_at (take known rec) next) (iterate (left - 1) (after_entry (after_value τ)))
      go τ e =
          let (us, a, b) = at rec known t place in_rec bound l in
          let z : place + size ≡ (place + 1) + (2 * edges + 1) = omega arith in
          let v : view_at (take known rec) (place + size) ≡ skip (2 * edges + 1) us = ap (view_at (take known rec)) z ∙ (sym (view_skip (take known rec) (place + 1) (2 * edges + 1)) ∙ ap (λ (o : Option (List ℕ)). option_bind o (skip (2 * edges + 1))) b) in
          g.is τ e ∙ (ap (λ (o : Option (List ℕ)). option_bind o (iterate left (after_entry (after_value τ)))) a ∙ (one_more left (after_entry (after_value τ)) (get_or rec place 0 ∷ us) n
          ∙ sym (ap (λ (o : Option (List ℕ)). option_bind o (iterate (left - 1) (after_entry (after_value τ)))) (h.is (typed τ) e ∙ (ap (λ (o : Option (List ℕ)). option_bind o (after_value τ)) v ∙ ap (λ (i : ℕ). option_bind (skip (2 * i + 1) us) (after_value τ)) q)))))

-- after i of them
pub group_next : (rec : List ℕ) (known t from count place i edges size next : ℕ) → known ≤ length rec → known ≤ 20000 → Grouping (take known rec) t from count place (count - i) → i < count → place < known → edges ≡ get_or rec place 0 →
    size ≡ 2 * edges + 2 → EndsAt (take known rec) t (place + size) next → Grouping (take known rec) t from count next (count - (i + 1))
group_next rec known t from count place i edges size next k b g n l q s h =
    let e : count - (i + 1) ≡ count - i - 1 = omega arith in
    rw e (group_more rec known t from count place (count - i) k b edges size next g (omega arith) l q s h)

pub group_all : (ks : List ℕ) (t from count place i : ℕ) → Grouping ks t from count place (count - i) → count ≤ i → EndsGroup ks t from count place
group_all ks t from count place i g l = group_done ks t from count place (count - i) g (omega arith)

pub group_past : (rec : List ℕ) (known t from count place i : ℕ) → known ≤ length rec → known ≤ 20000 → Grouping (take known rec) t from count place (count - i) → i < count → known ≤ place → EndsGroup (take known rec) t from count 65535
group_past rec known t from count place i k b g n l = group_unknown rec known t from count place (count - i) k b g (omega arith) l
