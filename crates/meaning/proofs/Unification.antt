-- The computed test of unification.
use mathlib.Core.Path.{◌∙◌, ◌≡◌, ap₂, refl, sym}
use mathlib.Core.List.Memᴰ
use mathlib.Core.List.{List, [], ◌∷◌}
use mathlib.Core.Option.{Option, none, some}
use mathlib.Core.Bool.{◌&&◌, true}
use Prim.Native.Nat.{ℕ}
use Rattle.meaning.proofs.Logic.{and_l, and_r, no_false, no_none, some_inj}
use Rattle.meaning.proofs.Opened.{opened}
use Rattle.meaning.specs.Assignment.{Assignment, Unify, Value, Value-dec}
use Rattle.meaning.specs.Basics.{◌∈◌, same}
use Rattle.meaning.specs.Meaning.{agree, unifies}

same→ : {A : Type 0} (d : Dec A) → same d ≡ true → A
unfolding opened
same→ (yes a) e = a
same→ (no n) e = no_false e

same← : {A : Type 0} (d : Dec A) → A → same d ≡ true
unfolding opened
same← (yes a) x = refl
same← (no n) x = absurd (n x)

pub agree→ : (a b : Option Value) {v w : Value} → agree a b ≡ true → a ≡ some v → b ≡ some w → v ≡ w
unfolding opened
agree→ none b e p q = no_none p
agree→ (some v) none e p q = no_none q
agree→ (some v) (some w) e p q = sym (some_inj p) ∙ (same→ (Value-dec v w) e ∙ some_inj q)

agree← : (a b : Option Value) → ((v w : Value) → a ≡ some v → b ≡ some w → v ≡ w) → agree a b ≡ true
unfolding opened
agree← none b h = refl
agree← (some v) none h = refl
agree← (some v) (some w) h = same← (Value-dec v w) (h v w refl refl)

pub unifies→ : (μ ν : Assignment) {x : ℕ} {xs : List ℕ} → x ∈ xs → unifies xs μ ν ≡ true → agree (μ x) (ν x) ≡ true
unfolding opened
unifies→ μ ν (Memᴰ.head {x = y} {xs = ys} e) h = rw e (and_l (agree (μ y) (ν y)) (unifies ys μ ν) h)
unifies→ μ ν (Memᴰ.tail {x = y} {xs = ys} m) h = unifies→ μ ν m (and_r (agree (μ y) (ν y)) (unifies ys μ ν) h)

pub unifies← : (xs : List ℕ) (μ ν : Assignment) → Unify μ ν → unifies xs μ ν ≡ true
unfolding opened
unifies← [] μ ν h = refl
unifies← (x ∷ xs) μ ν h = ap₂ ◌&&◌ (agree← (μ x) (ν x) (h x)) (unifies← xs μ ν h)
