-- What the checker grants: an accepted pattern has no edgeless body, is at most two repetitions deep, and is typed.
use mathlib.Core.Path.{◌∙◌, ◌≡◌, ap, refl, sym}
use mathlib.Core.List.Memᴰ
use mathlib.Core.List.{List, ◌∷◌}
use mathlib.Core.Option.{none}
use mathlib.Core.Bool.{Bool, false, true}
use mathlib.Core.Logic.{◌≢◌}
use Prim.Native.Nat.{◌+◌, ◌-◌, ◌<◌, ◌≤◌, suc, zero, ℕ}
use native.Mathlib.Omega.{arith}
use lib.Dec.{eqb, leb}
use lib.ListN.{length}
use borrow.Author.Tests.{eqb-false, eqb-true, leb-true}
use Rattle.meaning.proofs.Bodies.{deep_all, sound_all}
use Rattle.meaning.proofs.Causes.{at_row_none, first_none, lowest_none}
use Rattle.meaning.proofs.Logic.{and_l, and_r, no_true, not_false, or_false_l, or_false_r}
use Rattle.meaning.proofs.Opened.{opened}
use Rattle.meaning.proofs.Unused.{unused→absent}
use Rattle.meaning.proofs.Variables.{var_all}
use Rattle.meaning.specs.Basics.{Cause, ◌∈◌, eight, first_of, lowest, up_from}
use Rattle.meaning.specs.Pattern.{Pattern, Sound, in_var, nesting}
use Rattle.meaning.specs.Table.{Item, Row, any_of, as_pattern, condition_item_lem, fault12, fault13, fault14, fault15, fault16, fine, form_at, is_clash_lem, is_variable_lem, item_at, no_item, on_pattern, pattern_item, row_cause, table_fault, table_pattern, untyped}
use Rattle.meaning.specs.Typing.{Found, absent, clash, type_of}

-- a test that fails on all fails at each
any_false : (f : ℕ → Bool) {x : ℕ} {l : List ℕ} → x ∈ l → any_of l f ≡ false → f x ≡ false
unfolding opened
any_false f (Memᴰ.head {x = y} {xs = ys} q) e = ap f q ∙ or_false_l (f y) (any_of ys f) e
any_false f (Memᴰ.tail {x = y} {xs = ys} m) e = any_false f m (or_false_r (f y) (any_of ys f) e)

pub in_up_from : (n i x : ℕ) → i ≤ x → x < i + n → x ∈ up_from n i
unfolding opened
in_up_from zero i x h k = absurd (omega arith)
in_up_from (suc n) i x h k = go (eqb x i) refl (in_up_from n (suc i) x)
  where
    go : (b : Bool) → eqb x i ≡ b → (suc i ≤ x → x < suc i + n → x ∈ up_from n (suc i)) → x ∈ (i ∷ up_from n (suc i))
    go true e ih = Memᴰ.head (eqb-true x i e)
    go false e ih = let z : x ≢ i = eqb-false x i e in Memᴰ.tail (ih (omega arith) (omega arith))

is_eight : (x : ℕ) → is_variable_lem x ≡ true → x ∈ eight
unfolding opened
is_eight x h =
    let a : 1 ≤ x = leb-true 1 x (and_l (leb 1 x) (leb x 8) h) in
    let b : x ≤ 8 = leb-true x 8 (and_r (leb 1 x) (leb x 8) h) in
    in_up_from 8 1 x a (omega arith)

eight_false : (f : ℕ → Bool) → any_of eight f ≡ false → (x : ℕ) → is_variable_lem x ≡ true → f x ≡ false
unfolding opened
eight_false f e x h = any_false f (is_eight x h) e

not_clash : (f : Found) → is_clash_lem f ≡ false → f ≢ clash
unfolding opened
not_clash f e q = no_true (sym (ap is_clash_lem q) ∙ e)

no_absent_clash : absent ≡ clash → ⊥
unfolding opened
no_absent_clash e = let z : ◌≡◌ {A = ℕ} 0 1 = cc in omega arith

pub typed_pattern : (π : Pattern) → ((x : ℕ) → in_var π x ≡ true → is_variable_lem x ≡ true) → untyped π ≡ false → (x : ℕ) → type_of π x ≢ clash
unfolding opened
typed_pattern π v u x = go (in_var π x) refl
  where
    go : (b : Bool) → in_var π x ≡ b → type_of π x ≢ clash
    go true e = not_clash (type_of π x) (eight_false (λ y. is_clash_lem (type_of π y)) u x (v x e))
    go false e = λ q. no_absent_clash (sym (unused→absent π x e) ∙ q)

item_untyped : (x : Item) → on_pattern untyped x ≡ false → untyped (as_pattern x) ≡ false
unfolding opened
item_untyped (pattern_item π) e = e
item_untyped (condition_item_lem θ) e = refl
item_untyped no_item e = refl

-- what an accepted pattern is
pub record Accepted (π : Pattern) : Type 0 where
  pub sound : Sound π
  pub shallow : nesting π ≤ 2
  pub variables : (x : ℕ) → in_var π x ≡ true → is_variable_lem x ≡ true
  pub no_clash : (x : ℕ) → type_of π x ≢ clash

-- the variables of an accepted pattern are among the eight
pub used_eight : (π : Pattern) → Accepted π → (x : ℕ) → in_var π x ≡ true → x ∈ eight
unfolding opened
used_eight π ok x u = is_eight x (ok.variables x u)

-- no row of a table has the fault
pub clear : (t : List Row) (n : ℕ) (f : ℕ → Bool) → row_cause t n f ≡ none → (i : ℕ) → i < length t → f i ≡ false
unfolding opened
clear t n f e i h = lowest_none (length t) 0 f (at_row_none n (lowest (length t) 0 f) e) i (omega arith) (omega arith)

-- no row has a fault of 12 to 15
pub record WellFormed (t : List Row) : Type 0 where
  pub no_12 : (i : ℕ) → i < length t → fault12 t i ≡ false
  pub no_13 : (i : ℕ) → i < length t → fault13 t i ≡ false
  pub no_14 : (i : ℕ) → i < length t → fault14 t i ≡ false
  pub no_15 : (i : ℕ) → i < length t → fault15 t i ≡ false

pub rows_fine : (t : List Row) → WellFormed t → (i : ℕ) → i < length t → fine t i (form_at t i) ≡ true
unfolding opened
rows_fine t w i h = not_false (fine t i (form_at t i)) (w.no_12 i h)

-- what an accepted table has passed: 12 to 15, and 16
pub passed : (t : List Row) → table_fault t ≡ none → WellFormed t × ((i : ℕ) → i < length t → fault16 t i ≡ false)
unfolding opened
passed t e =
    let c₁₆ : Cause = row_cause t 16 (fault16 t) in
    let c₁₅ : Cause = first_of (row_cause t 15 (fault15 t)) c₁₆ in
    let c₁₄ : Cause = first_of (row_cause t 14 (fault14 t)) c₁₅ in
    let a = first_none (row_cause t 12 (fault12 t)) (first_of (row_cause t 13 (fault13 t)) c₁₄) e in
    let b = first_none (row_cause t 13 (fault13 t)) c₁₄ a.1 in
    let c = first_none (row_cause t 14 (fault14 t)) c₁₅ b.1 in
    let d = first_none (row_cause t 15 (fault15 t)) c₁₆ c.1 in
    (record { no_12 = clear t 12 (fault12 t) a.0; no_13 = clear t 13 (fault13 t) b.0; no_14 = clear t 14 (fault14 t) c.0; no_15 = clear t 15 (fault15 t) d.0 }, clear t 16 (fault16 t) d.1)

pub table_accepted : (t : List Row) → 0 < length t → table_fault t ≡ none → Accepted (table_pattern t)
unfolding opened
table_accepted t n e =
    let w = passed t e in
    let ok = rows_fine t w.0 in
    let k : length t - 1 < length t = omega arith in
    let v = var_all t ok (length t - 1) k in
    record {
      sound = sound_all t ok w.0.no_14 (length t - 1) k;
      shallow = deep_all t ok w.0.no_15 (length t - 1) k;
      variables = v;
      no_clash = typed_pattern (as_pattern (item_at t (length t - 1))) v (item_untyped (item_at t (length t - 1)) (w.1 (length t - 1) k));
    }
