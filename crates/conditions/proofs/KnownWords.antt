-- The ways out of the functions from known words to elements.
use mathlib.Core.Path.{◌≡◌, refl, sym, ap, ◌∙◌}
use mathlib.Core.List.{List}
use mathlib.Core.Bool.{Bool, true, false}
use mathlib.Core.Option as math
use mathlib.Core.Option.{none, some}
use Rattle.std.specs.Prelude.{None, Option, Some}
use mathlib.Core.Logic.{◌⊎◌, inl, inr}
use Prim.Native.Nat.{ℕ, ◌+◌, ◌<◌, ◌≤◌}
use native.Mathlib.Omega.{arith}
use lib.Dec.{eqb}
use lib.ListN.{get_or, length, take}
use lib.Seq.{get_or-take, length-take-le}
use borrow.Author.Tests.{eqb-true, eqb-false}
use Rattle.compiled.specs.declared.ids.Element.TheVariants as element
use Rattle.matcher.proofs.Places.{view_first, view_none, view_at}
use Rattle.matcher.specs.Conditions.{element_at_lem, element_of}
use Rattle.matcher.specs.Views.{View, first_known_lem}
use Rattle.meaning.specs.Typing.{Found, absent}
use Rattle.compiled.specs.declared.ids.Element.{Element}
use Rattle.conditions.specs.declared.bound.Bound.{Bound}
use Rattle.conditions.specs.Bound.{Binds, Rebound, bound_of}
use Rattle.conditions.specs.Known.{BindsAt, BindsWord, BindsWords, Codes, views_at}

-- ------------------------------------------------------------------ binding_of
module _ (code w : ℕ) where
  pub word_node : code ≡ 1 → BindsWord code w (Some (element.Node (record { 0 = w })))
  unfolding element_of
  word_node e = record { is = λ f c. rw (c.node e) }

  pub word_edge : code ≡ 2 → BindsWord code w (Some (element.Edge (record { 0 = w })))
  unfolding element_of
  word_edge e = record { is = λ f c. rw (c.edge e) }

  pub word_other : (code ≡ 1 → ⊥) → (code ≡ 2 → ⊥) → BindsWord code w None
  word_other n m = record { is = λ f c. sym (c.other n m w) }

-- ------------------------------------------------------------------ binding_at
module _ (rec : List ℕ) (known code place : ℕ) (l : known ≤ length rec) where
  pub at_known : (r : Option Element) → place < known → BindsWord code (get_or rec place 0) r → BindsAt (take known rec) code place r
  unfolding element_at_lem
  at_known r h b = record {
    is = λ f c.
        let v : first_known_lem (view_at (take known rec) place) ≡ some (get_or rec place 0) =
        view_first (take known rec) place (omega (arith, length-take-le known rec l)) ∙ ap (λ (w : ℕ). some w) (get_or-take known rec place 0 h) in
        b.is f c ∙ ap (element_at_lem f) (sym v);
  }

  pub at_unknown : known ≤ place → BindsAt (take known rec) code place None
  unfolding element_at_lem
  at_unknown h = record { is = λ f c. ap (element_at_lem f) (sym (view_none (take known rec) place (omega (arith, length-take-le known rec l)))) }

-- ------------------------------------------------------------------ bound_by: the variables below x are bound
pub record BindsBelow (ks types places : List ℕ) (b : Bound) (x : ℕ) : Type 0 where
  pub is : (f : ℕ → Found) → ((y : ℕ) → 1 ≤ y → y < 9 → Codes (get_or types y 0) (f y)) → (y : ℕ) → 1 ≤ y → y < x → bound_of b y ≡ element_at_lem (f y) (first_known_lem (views_at ks places y))

module _ (ks types places : List ℕ) where
  pub binds_none : (b : Bound) → BindsBelow ks types places b 1
  binds_none b = record { is = λ f c y low high. absurd (omega arith) }

  pub binds_more : (b r : Bound) (x code place : ℕ) (k : Option Element) → 1 ≤ x → x < 9 → BindsBelow ks types places b x → code ≡ get_or types x 0 → place ≡ get_or places x 0 → BindsAt ks code place k → Rebound b x k r
      → BindsBelow ks types places r (x + 1)
  binds_more b r x code place k one h i ec ep a n = record { is = λ f c y low high. go f c y low high (eqb y x) refl }
    where
      go : (f : ℕ → Found) → ((y : ℕ) → 1 ≤ y → y < 9 → Codes (get_or types y 0) (f y)) → (y : ℕ) → 1 ≤ y → y < x + 1 → (q : Bool) → eqb y x ≡ q → bound_of r y ≡ element_at_lem (f y) (first_known_lem (views_at ks places y))
      go f c y low high true e =
          let z : y ≡ x = eqb-true y x e in
          rw z (n.here ∙ a.is (f x) (rw ec (c x one h)) ∙ ap (λ (p : ℕ). element_at_lem (f x) (first_known_lem (view_at ks p))) ep)
      go f c y low high false e =
          let z : y ≡ x → ⊥ = eqb-false y x e in
          n.other y z ∙ i.is f c y low (omega arith)

  pub binds_all : (b : Bound) (x : ℕ) → 9 ≤ x → BindsBelow ks types places b x → BindsWords ks types places b
  binds_all b x h i = record { is = λ f c. record { is = λ y low high. i.is f c y low (omega arith) } }

-- ------------------------------------------------------------------ for callers
-- views of fewer variables: those left out have no type
pub binds_masked : (b : Bound) (f : ℕ → Found) (v u : View) → Binds b f v → ((x : ℕ) → 1 ≤ x → x < 9 → (u x ≡ v x) ⊎ (f x ≡ absent)) → Binds b f u
unfolding element_at_lem element_of
binds_masked b f v u h m = record { is = λ x low high. go x (m x low high) (h.is x low high) }
  where
    none_of : (w : math.Option ℕ) → element_at_lem absent w ≡ none
    none_of none = refl
    none_of (some w) = refl

    go : (x : ℕ) → (u x ≡ v x) ⊎ (f x ≡ absent) → bound_of b x ≡ element_at_lem (f x) (first_known_lem (v x)) → bound_of b x ≡ element_at_lem (f x) (first_known_lem (u x))
    go x (inl e) k = rw e k
    go x (inr e) k = k ∙ rw e (none_of (first_known_lem (v x)) ∙ sym (none_of (first_known_lem (u x))))
