-- The ways out of value_end and group_end. Assumes nothing.
use mathlib.Core.Path.{◌∙◌, ◌≡◌, ap, ap₂, refl, sym}
use mathlib.Core.List.{List, [], ◌∷◌}
use mathlib.Core.Option.{Option, none, some}
use mathlib.Core.Bool.{Bool, false, true}
use Prim.Native.Nat.{◌%◌, ◌+◌, ◌/◌, ◌<◌, ◌≤◌, suc, zero, ℕ}
use native.Mathlib.Omega.{arith}
use lib.Dec.{eqb}
use lib.ListN.{get_or, length, take}
use lib.Seq.{get_or-take, length-take-le}
use borrow.Author.Tests.{eq-eqb, ne_eqb}
use Rattle.matcher.specs.Values.{after_entry, after_maybe, after_value, after_view, iterate, option_bind, skip}
use Rattle.matcher.proofs.Opened.{matcher_opened}
use Rattle.matcher.proofs.Places.{view_far, view_at}
use Rattle.std.specs.Prelude.{if◌then◌else◌}
use Rattle.meaning.specs.Typing.{Edge, Found, Group, Maybe, Node, Ty, absent, clash, typed}
use Rattle.typecode.specs.Codes.{code_of, ty_code}
use Rattle.records.specs.Ends.{EndsAt, EndsGroup}

-- a known place: its word, and the rest
view_cons : (ks : List ℕ) (k : ℕ) → k < length ks → (us : List ℕ) × (view_at ks k ≡ some (get_or ks k 0 ∷ us)) × (view_at ks (k + 1) ≡ some us)
unfolding skip
view_cons [] k h = absurd (omega arith)
view_cons (w ∷ ks) zero h = (ks, refl, refl)
view_cons (w ∷ ks) (suc k) h =
    let (us, a, b) = view_cons ks k (omega arith) in
    let e : suc k + 1 ≡ suc (k + 1) = omega arith in
    (us, a, ap (λ (i : ℕ). skip i (w ∷ ks)) e ∙ b)

-- a place that is not known, or the first unknown one
pub view_past : (ks : List ℕ) (k : ℕ) → length ks ≤ k → (f : List ℕ → Option (List ℕ)) → f [] ≡ none → option_bind (view_at ks k) f ≡ none
unfolding skip option_bind
view_past [] zero h f e = e
view_past [] (suc k) h f e = refl
view_past (w ∷ ks) zero h f e = absurd (omega arith)
view_past (w ∷ ks) (suc k) h f e = view_past ks k (omega arith) f e

after_unknown : (ks : List ℕ) (k : ℕ) (f : Found) → length ks ≤ k → after_view f (view_at ks k) ≡ none
unfolding matcher_opened
after_unknown ks k absent h = view_past ks k h (λ us. none) refl
after_unknown ks k clash h = view_past ks k h (λ us. none) refl
after_unknown ks k (typed Node) h = view_past ks k h (after_value Node) refl
after_unknown ks k (typed Edge) h = view_past ks k h (after_value Edge) refl
after_unknown ks k (typed (Maybe τ)) h = view_past ks k h (after_value (Maybe τ)) refl
after_unknown ks k (typed (Group τ)) h = view_past ks k h (after_value (Group τ)) refl

-- where there is no type
pub after_untyped : (o : Option (List ℕ)) → option_bind o (λ us. none) ≡ none
unfolding option_bind
after_untyped none = refl
after_untyped (some us) = refl

-- the digit of each form of type
abbrev Digit : ℕ → Found → Type 0
Digit t absent = t % 8 ≡ 0
Digit t clash = t % 8 ≡ 7
Digit t (typed Node) = t % 8 ≡ 1
Digit t (typed Edge) = t % 8 ≡ 2
Digit t (typed (Maybe τ)) = (t % 8 ≡ 3) × (t / 8 ≡ ty_code τ)
Digit t (typed (Group τ)) = (t % 8 ≡ 4) × (t / 8 ≡ ty_code τ)

digit : (t : ℕ) (f : Found) → t ≡ code_of f → Digit t f
unfolding code_of ty_code
digit t absent e = omega arith
digit t clash e = omega arith
digit t (typed Node) e = omega arith
digit t (typed Edge) e = omega arith
digit t (typed (Maybe τ)) e = (omega arith, omega arith)
digit t (typed (Group τ)) e = (omega arith, omega arith)

-- the lowest digit of a type is 1 to 4
pub no_digit : (t : ℕ) (τ : Ty) → t ≡ ty_code τ → (t % 8 + 3) % 8 < 4 → ⊥
unfolding ty_code
no_digit t Node e h = omega arith
no_digit t Edge e h = omega arith
no_digit t (Maybe τ) e h = omega arith
no_digit t (Group τ) e h = omega arith

module _ (rec : List ℕ) (known t place : ℕ) (in_rec : known ≤ length rec) (bound : known ≤ 20000) where
  pub at : place < known → (us : List ℕ) × (view_at (take known rec) place ≡ some (get_or rec place 0 ∷ us)) × (view_at (take known rec) (place + 1) ≡ some us)
  at h = let (us, a, b) = view_cons (take known rec) place (omega (arith, length-take-le known rec in_rec)) in (us, a ∙ ap (λ (w : ℕ). some (w ∷ us)) (get_or-take known rec place 0 h), b)

  pub nowhere : view_at (take known rec) 65535 ≡ none
  nowhere = view_far (take known rec) 65535 (omega (arith, length-take-le known rec in_rec))

  pub end_unknown : known ≤ place → EndsAt (take known rec) t place 65535
  end_unknown h = record { is = λ f e. nowhere ∙ sym (after_unknown (take known rec) place f (omega (arith, length-take-le known rec in_rec))); small = omega arith }

  pub end_one : place < known → 1 ≤ t % 8 → t % 8 < 3 → EndsAt (take known rec) t place (place + 1)
  unfolding matcher_opened
  end_one l d₁ d₂ = record { is = λ f e. go f (digit t f e); small = omega arith }
    where
      go : (f : Found) → Digit t f → view_at (take known rec) (place + 1) ≡ after_view f (view_at (take known rec) place)
      go absent d = absurd (omega arith)
      go clash d = absurd (omega arith)
      go (typed Node) d = let (us, a, b) = at l in b ∙ sym (ap (λ (o : Option (List ℕ)). option_bind o (after_value Node)) a)
      go (typed Edge) d = let (us, a, b) = at l in b ∙ sym (ap (λ (o : Option (List ℕ)). option_bind o (after_value Edge)) a)
      go (typed (Maybe τ)) d = absurd (omega (arith, d.0))
      go (typed (Group τ)) d = absurd (omega (arith, d.0))

  maybe_is : (τ : Ty) (w : ℕ) (us : List ℕ) (b : Bool) → eqb w 65535 ≡ b → after_maybe (after_value τ) (w ∷ us) ≡ (if b then some us else after_value τ (w ∷ us))
  unfolding after_maybe
  maybe_is τ w us b e = ap (λ (c : Bool). if c then some us else after_value τ (w ∷ us)) e

  pub end_nothing : (w : ℕ) → place < known → t % 8 ≡ 3 → w ≡ get_or rec place 0 → w ≡ 65535 → EndsAt (take known rec) t place (place + 1)
  unfolding matcher_opened
  end_nothing w l d₀ q n = record { is = λ f e. go f (digit t f e); small = omega arith }
    where
      go : (f : Found) → Digit t f → view_at (take known rec) (place + 1) ≡ after_view f (view_at (take known rec) place)
      go absent d = absurd (omega arith)
      go clash d = absurd (omega arith)
      go (typed Node) d = absurd (omega arith)
      go (typed Edge) d = absurd (omega arith)
      go (typed (Maybe τ)) d = let (us, a, b) = at l in b ∙ sym (ap (λ (o : Option (List ℕ)). option_bind o (after_value (Maybe τ))) a ∙ maybe_is τ (get_or rec place 0) us true (eq-eqb (get_or rec place 0) 65535 (sym q ∙ n)))
      go (typed (Group τ)) d = absurd (omega (arith, d.0))

  pub end_maybe : (w r : ℕ) → place < known → t % 8 ≡ 3 → w ≡ get_or rec place 0 → (w ≡ 65535 → ⊥) → EndsAt (take known rec) (t / 8) place r → EndsAt (take known rec) t place r
  unfolding matcher_opened code_of
  end_maybe w r l d₀ q n h = record { is = λ f e. go f (digit t f e); small = h.small }
    where
      go : (f : Found) → Digit t f → view_at (take known rec) r ≡ after_view f (view_at (take known rec) place)
      go absent d = absurd (omega arith)
      go clash d = absurd (omega arith)
      go (typed Node) d = absurd (omega arith)
      go (typed Edge) d = absurd (omega arith)
      go (typed (Maybe τ)) d =
          let (us, a, b) = at l in
          h.is (typed τ) d.1 ∙ (ap (λ (o : Option (List ℕ)). option_bind o (after_value τ)) a ∙ sym (ap (λ (o : Option (List ℕ)). option_bind o (after_value (Maybe τ))) a ∙ maybe_is τ (get_or rec place 0) us false (ne_eqb (get_or rec place 0) 65535 (λ z. n (q ∙ z)))))
      go (typed (Group τ)) d = absurd (omega (arith, d.0))

  pub end_group : (w r : ℕ) → place < known → t % 8 ≡ 4 → w ≡ get_or rec place 0 → EndsGroup (take known rec) (t / 8) (place + 1) w r → EndsAt (take known rec) t place r
  unfolding matcher_opened
  end_group w r l d₀ q h = record { is = λ f e. go f (digit t f e); small = h.small }
    where
      go : (f : Found) → Digit t f → view_at (take known rec) r ≡ after_view f (view_at (take known rec) place)
      go absent d = absurd (omega arith)
      go clash d = absurd (omega arith)
      go (typed Node) d = absurd (omega arith)
      go (typed Edge) d = absurd (omega arith)
      go (typed (Maybe τ)) d = absurd (omega (arith, d.0))
      go (typed (Group τ)) d =
          let (us, a, b) = at l in
          h.is τ d.1 ∙ (ap₂ (λ (o : Option (List ℕ)) (c : ℕ). option_bind o (iterate c (after_entry (after_value τ)))) b q ∙ sym (ap (λ (o : Option (List ℕ)). option_bind o (after_value (Group τ))) a))

  pub end_low : t % 8 < 1 → EndsAt (take known rec) t place 65535
  unfolding matcher_opened
  end_low d₀ = record { is = λ f e. go f (digit t f e); small = omega arith }
    where
      go : (f : Found) → Digit t f → view_at (take known rec) 65535 ≡ after_view f (view_at (take known rec) place)
      go absent d = nowhere ∙ sym (after_untyped (view_at (take known rec) place))
      go clash d = absurd (omega arith)
      go (typed Node) d = absurd (omega arith)
      go (typed Edge) d = absurd (omega arith)
      go (typed (Maybe τ)) d = absurd (omega (arith, d.0))
      go (typed (Group τ)) d = absurd (omega (arith, d.0))

  pub end_high : 3 ≤ t % 8 → (t % 8 ≡ 3 → ⊥) → (t % 8 ≡ 4 → ⊥) → EndsAt (take known rec) t place 65535
  unfolding matcher_opened
  end_high d₀ n₃ n₄ = record { is = λ f e. go f (digit t f e); small = omega arith }
    where
      go : (f : Found) → Digit t f → view_at (take known rec) 65535 ≡ after_view f (view_at (take known rec) place)
      go absent d = absurd (omega arith)
      go clash d = nowhere ∙ sym (after_untyped (view_at (take known rec) place))
      go (typed Node) d = absurd (omega arith)
      go (typed Edge) d = absurd (omega arith)
      go (typed (Maybe τ)) d = absurd (n₃ d.0)
      go (typed (Group τ)) d = absurd (n₄ d.0)
