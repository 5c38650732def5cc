-- The sort of a kind.
use mathlib.Core.Path.{◌≡◌, refl, sym, ap, ap₂, ◌∙◌}
use mathlib.Core.Bool.{Bool, ◌&&◌, and-false, false, true}
use Prim.Native.Nat.{ℕ, ◌<◌, ◌≤◌}
use native.Mathlib.Omega.{arith}
use lib.Dec.{leb}
use borrow.Author.Tests.{le-leb, lt-leb, leb-true}
use Rattle.std.specs.Prelude.{if◌then◌else◌}
use Rattle.meaning.proofs.Logic.{no_false}
use Rattle.rows.specs.Rows.{pattern_kind_lem, condition_kind_lem, sort_of_lem}
use Rattle.rows.specs.contracts.row.SortPartialEq.TheImpl as derived
use Rattle.rows.specs.declared.row.Sort.{Sort}
use Rattle.rows.specs.declared.row.Sort.TheVariants.{Pattern, Condition, Unknown}

module _ (k : ℕ) where
  pub pattern_in : 1 ≤ k → k < 9 → pattern_kind_lem k ≡ true
  unfolding pattern_kind_lem
  pattern_in a b = ap₂ ◌&&◌ (le-leb 1 k a) (le-leb k 8 (omega arith))

  pub pattern_low : k < 1 → pattern_kind_lem k ≡ false
  unfolding pattern_kind_lem
  pattern_low a = ap (λ (c : Bool). c && leb k 8) (lt-leb 1 k a)

  pub pattern_high : 8 < k → pattern_kind_lem k ≡ false
  unfolding pattern_kind_lem
  pattern_high a = ap (λ (c : Bool). leb 1 k && c) (lt-leb k 8 a) ∙ and-false (leb 1 k)

  pub condition_in : 16 ≤ k → k < 21 → condition_kind_lem k ≡ true
  unfolding condition_kind_lem
  condition_in a b = ap₂ ◌&&◌ (le-leb 16 k a) (le-leb k 20 (omega arith))

  pub condition_low : k < 16 → condition_kind_lem k ≡ false
  unfolding condition_kind_lem
  condition_low a = ap (λ (c : Bool). c && leb k 20) (lt-leb 16 k a)

  pub condition_high : 20 < k → condition_kind_lem k ≡ false
  unfolding condition_kind_lem
  condition_high a = ap (λ (c : Bool). leb 16 k && c) (lt-leb k 20 a) ∙ and-false (leb 16 k)

  picked : (a b : Bool) → pattern_kind_lem k ≡ a → condition_kind_lem k ≡ b → (if a then Pattern else if b then Condition else Unknown) ≡ sort_of_lem k
  unfolding sort_of_lem
  picked a b e f = sym (ap₂ (λ (c d : Bool). if c then Pattern else if d then Condition else Unknown) e f)

  pub sort_pattern : 1 ≤ k → k < 9 → Pattern ≡ sort_of_lem k
  sort_pattern a b = picked true false (pattern_in a b) (condition_low (omega arith))

  pub sort_condition : 16 ≤ k → k < 21 → Condition ≡ sort_of_lem k
  sort_condition a b = picked false true (pattern_high (omega arith)) (condition_in a b)

  pub sort_low : k < 1 → Unknown ≡ sort_of_lem k
  sort_low a = picked false false (pattern_low a) (condition_low (omega arith))

  pub sort_mid : 8 < k → k < 16 → Unknown ≡ sort_of_lem k
  sort_mid a b = picked false false (pattern_high a) (condition_low b)

  pub sort_high : 20 < k → Unknown ≡ sort_of_lem k
  sort_high a = picked false false (pattern_high (omega arith)) (condition_high a)

-- what a sort that was told says of the kind
is_pattern_lem : Sort → Bool
is_pattern_lem Pattern = true
is_pattern_lem Condition = false
is_pattern_lem Unknown = false

is_condition_lem : Sort → Bool
is_condition_lem Pattern = false
is_condition_lem Condition = true
is_condition_lem Unknown = false

disjoint : (k : ℕ) → pattern_kind_lem k ≡ true → condition_kind_lem k ≡ false
unfolding pattern_kind_lem
disjoint k e = go (leb 1 k) (leb k 8) refl e
  where
    go : (a b : Bool) → leb k 8 ≡ b → (a && b) ≡ true → condition_kind_lem k ≡ false
    go true true q e = condition_low k (omega (arith, leb-true k 8 q))
    go true false q e = no_false e
    go false b q e = no_false e

told_pattern : (k : ℕ) → is_pattern_lem (sort_of_lem k) ≡ pattern_kind_lem k
unfolding sort_of_lem is_pattern_lem
told_pattern k = go (pattern_kind_lem k) (condition_kind_lem k)
  where
    go : (a b : Bool) → is_pattern_lem (if a then Pattern else if b then Condition else Unknown) ≡ a
    go true b = refl
    go false true = refl
    go false false = refl

told_condition : (k : ℕ) → is_condition_lem (sort_of_lem k) ≡ condition_kind_lem k
unfolding sort_of_lem is_condition_lem
told_condition k = go (pattern_kind_lem k) (condition_kind_lem k) refl refl
  where
    go : (a b : Bool) → pattern_kind_lem k ≡ a → condition_kind_lem k ≡ b → is_condition_lem (if a then Pattern else if b then Condition else Unknown) ≡ b
    go true b e f = sym (disjoint k e) ∙ f
    go false true e f = refl
    go false false e f = refl

-- the derived test says the same
by_pattern : (s : Sort) → (derived.ghosts).eq s Pattern ≡ is_pattern_lem s
unfolding is_pattern_lem
by_pattern Pattern = refl
by_pattern Condition = refl
by_pattern Unknown = refl

by_condition : (s : Sort) → (derived.ghosts).eq s Condition ≡ is_condition_lem s
unfolding is_condition_lem
by_condition Pattern = refl
by_condition Condition = refl
by_condition Unknown = refl

module _ (k : ℕ) (s : Sort) (e : s ≡ sort_of_lem k) (r : Bool) where
  pub is_pattern_law : r ≡ (derived.ghosts).eq s Pattern → r ≡ pattern_kind_lem k
  is_pattern_law q = q ∙ by_pattern s ∙ ap is_pattern_lem e ∙ told_pattern k

  pub is_condition_law : r ≡ (derived.ghosts).eq s Condition → r ≡ condition_kind_lem k
  is_condition_law q = q ∙ by_condition s ∙ ap is_condition_lem e ∙ told_condition k
