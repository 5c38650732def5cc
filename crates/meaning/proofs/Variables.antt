-- 12: the variables of every row's pattern are 1 to 8.
use mathlib.Core.Path.{◌≡◌, ap₂, refl}
use mathlib.Core.List.{List}
use mathlib.Core.Option.{none, some}
use mathlib.Core.Bool.{Bool, ◌&&◌, ◌||◌, false, true}
use mathlib.Core.Logic.{◌≢◌}
use Prim.Native.Nat.{◌<◌, ℕ}
use native.Mathlib.Omega.{arith}
use lib.Dec.{eqb, leb}
use lib.ListN.{length}
use borrow.Author.Tests.{eqb-false, eqb-true, le-leb}
use Rattle.meaning.proofs.Logic.{and_l, and_r, either, no_false, or_cases}
use Rattle.meaning.proofs.Opened.{opened}
use Rattle.meaning.proofs.Rows.{condition_below, every_row, pattern_below}
use Rattle.std.specs.Prelude.{if◌then◌else◌}
use Rattle.meaning.specs.Pattern.{in_condition, in_var, named}
use Rattle.meaning.specs.Table.{Form, Item, Row, as_condition, as_pattern, condition_item_lem, condition_row, fine, form_at, is_and, is_bad, is_concatenation, is_conditioned, is_constant, is_edge, is_node_lem, is_not, is_or, is_property, is_repetition, is_union, is_variable_lem, item_at, make, no_item, pattern_item, pattern_row_lem, unless}

abbrev VariablesItem : Item → Type 0
VariablesItem (pattern_item π) = (x : ℕ) → in_var π x ≡ true → is_variable_lem x ≡ true
VariablesItem (condition_item_lem θ) = (x : ℕ) → in_condition θ x ≡ true → is_variable_lem x ≡ true
VariablesItem no_item = Unit {0}

moved : (y x : ℕ) → is_variable_lem y ≡ true → eqb y x ≡ true → is_variable_lem x ≡ true
unfolding opened
moved y x h e = rw (eqb-true y x e) at h

var_pattern : (i : Item) → VariablesItem i → (x : ℕ) → in_var (as_pattern i) x ≡ true → is_variable_lem x ≡ true
unfolding opened
var_pattern (pattern_item π) h = h
var_pattern (condition_item_lem θ) h = λ x e. no_false e
var_pattern no_item h = λ x e. no_false e

var_condition : (i : Item) → VariablesItem i → (x : ℕ) → in_condition (as_condition i) x ≡ true → is_variable_lem x ≡ true
unfolding opened
var_condition (pattern_item π) h = λ x e. moved 1 x refl e
var_condition (condition_item_lem θ) h = h
var_condition no_item h = λ x e. moved 1 x refl e

named_var : (y x : ℕ) → leb y 8 ≡ true → named (unless 0 y) x ≡ true → is_variable_lem x ≡ true
unfolding opened
named_var y x h e = go (eqb y 0) refl e
  where
    go : (b : Bool) → eqb y 0 ≡ b → named (if b then none else some y) x ≡ true → is_variable_lem x ≡ true
    go true q e = no_false e
    go false q e = let z : y ≢ 0 = eqb-false y 0 q in moved y x (ap₂ ◌&&◌ (le-leb 1 y (omega arith)) h) e

module _ (t : List Row) (ok : (i : ℕ) → i < length t → fine t i (form_at t i) ≡ true) where
  two_patterns : (i p r : ℕ) → ((j : ℕ) → j < i → VariablesItem (item_at t j)) → (pattern_row_lem t i p && pattern_row_lem t i r) ≡ true → (x : ℕ) → (in_var (as_pattern (item_at t p)) x || in_var (as_pattern (item_at t r)) x) ≡ true → is_variable_lem x ≡ true
  unfolding opened
  two_patterns i p r ih e x u = either (or_cases (in_var (as_pattern (item_at t p)) x) (in_var (as_pattern (item_at t r)) x) u)
      (var_pattern (item_at t p) (ih p (pattern_below t i p (and_l (pattern_row_lem t i p) (pattern_row_lem t i r) e))) x)
      (var_pattern (item_at t r) (ih r (pattern_below t i r (and_r (pattern_row_lem t i p) (pattern_row_lem t i r) e))) x)

  two_conditions : (i p r : ℕ) → ((j : ℕ) → j < i → VariablesItem (item_at t j)) → (condition_row t i p && condition_row t i r) ≡ true → (x : ℕ) → (in_condition (as_condition (item_at t p)) x || in_condition (as_condition (item_at t r)) x) ≡ true → is_variable_lem x ≡ true
  unfolding opened
  two_conditions i p r ih e x u = either (or_cases (in_condition (as_condition (item_at t p)) x) (in_condition (as_condition (item_at t r)) x) u)
      (var_condition (item_at t p) (ih p (condition_below t i p (and_l (condition_row t i p) (condition_row t i r) e))) x)
      (var_condition (item_at t r) (ih r (condition_below t i r (and_r (condition_row t i p) (condition_row t i r) e))) x)

  var_row : (i : ℕ) → i < length t → ((j : ℕ) → j < i → VariablesItem (item_at t j)) → (f : Form) → fine t i f ≡ true → item_at t i ≡ make (item_at t) f → VariablesItem (make (item_at t) f)
  unfolding opened
  var_row i h ih (is_node_lem y l) e q = λ x u. named_var y x e u
  var_row i h ih (is_edge d y l) e q = λ x u. named_var y x e u
  var_row i h ih (is_union p r) e q = two_patterns i p r ih e
  var_row i h ih (is_concatenation p r) e q = two_patterns i p r ih e
  var_row i h ih (is_conditioned p r) e q = λ x u. either (or_cases (in_var (as_pattern (item_at t p)) x) (in_condition (as_condition (item_at t r)) x) u)
      (var_pattern (item_at t p) (ih p (pattern_below t i p (and_l (pattern_row_lem t i p) (condition_row t i r) e))) x)
      (var_condition (item_at t r) (ih r (condition_below t i r (and_r (pattern_row_lem t i p) (condition_row t i r) e))) x)
  var_row i h ih (is_repetition p r s) e q = var_pattern (item_at t p) (ih p (pattern_below t i p (and_l (pattern_row_lem t i p) (leb r 65534 && leb r s) e)))
  var_row i h ih (is_constant y k c) e q = λ x u. moved y x e u
  var_row i h ih (is_property y k z l) e q = λ x u. either (or_cases (eqb y x) (eqb z x) u) (moved y x (and_l (is_variable_lem y) (is_variable_lem z) e)) (moved z x (and_r (is_variable_lem y) (is_variable_lem z) e))
  var_row i h ih (is_and p r) e q = two_conditions i p r ih e
  var_row i h ih (is_or p r) e q = two_conditions i p r ih e
  var_row i h ih (is_not p) e q = var_condition (item_at t p) (ih p (condition_below t i p e))
  var_row i h ih is_bad e q = tt

  pub var_all : (i : ℕ) → i < length t → (x : ℕ) → in_var (as_pattern (item_at t i)) x ≡ true → is_variable_lem x ≡ true
  unfolding opened
  var_all i h = var_pattern (item_at t i) (every_row t VariablesItem ok var_row i h)
