-- 14 and 15: no row's pattern has an edgeless body, and none is more than two repetitions deep.
use mathlib.Core.Path.{◌∙◌, ◌≡◌, ap, sym}
use mathlib.Core.List.{List}
use mathlib.Core.Bool.{Bool, ◌&&◌, false, true}
use Prim.Native.Nat.{◌<◌, ◌≤◌, ℕ}
use native.Mathlib.Omega.{arith}
use lib.Dec.{leb}
use lib.ListN.{length}
use borrow.Author.Tests.{leb-false}
use Rattle.meaning.proofs.Logic.{and_l, and_r}
use Rattle.meaning.proofs.Opened.{opened}
use Rattle.meaning.proofs.Rows.{every_row, pattern_below}
use Rattle.std.specs.Prelude.{if◌then◌else◌}
use Rattle.meaning.specs.Basics.{max}
use Rattle.meaning.specs.Pattern.{Sound, edgeless, nesting}
use Rattle.meaning.specs.Table.{Form, Item, Row, as_pattern, condition_item_lem, condition_row, fault14, fault15, fine, form_at, is_and, is_bad, is_concatenation, is_conditioned, is_constant, is_edge, is_node_lem, is_not, is_or, is_property, is_repetition, is_union, item_at, make, no_item, on_pattern, pattern_item, pattern_row_lem, repeats, two_deep}

abbrev SoundItem : Item → Type 0
SoundItem (pattern_item π) = Sound π
SoundItem (condition_item_lem θ) = Unit {0}
SoundItem no_item = Unit {0}

sound_pattern : (x : Item) → SoundItem x → Sound (as_pattern x)
unfolding opened
sound_pattern (pattern_item π) h = h
sound_pattern (condition_item_lem θ) h = tt
sound_pattern no_item h = tt

-- ---------------- 15: two deep
abbrev ShallowItem : Item → Type 0
ShallowItem (pattern_item π) = nesting π ≤ 2
ShallowItem (condition_item_lem θ) = Unit {0}
ShallowItem no_item = Unit {0}

deep_pattern : (x : Item) → ShallowItem x → nesting (as_pattern x) ≤ 2
unfolding opened
deep_pattern (pattern_item π) h = h
deep_pattern (condition_item_lem θ) h = omega arith
deep_pattern no_item h = omega arith

max_bound : (a b d : ℕ) → a ≤ d → b ≤ d → max a b ≤ d
unfolding opened
max_bound a b d h k = go (leb a b)
  where
    go : (t : Bool) → (if t then b else a) ≤ d
    go true = k
    go false = h

module _ (t : List Row) (ok : (i : ℕ) → i < length t → fine t i (form_at t i) ≡ true) where
  module _ (bodies : (i : ℕ) → i < length t → fault14 t i ≡ false) where
    sound_row : (i : ℕ) → i < length t → ((j : ℕ) → j < i → SoundItem (item_at t j)) → (f : Form) → fine t i f ≡ true → item_at t i ≡ make (item_at t) f → SoundItem (make (item_at t) f)
    unfolding opened
    sound_row i h ih (is_node_lem x l) e q = tt
    sound_row i h ih (is_edge d x l) e q = tt
    sound_row i h ih (is_union p r) e q = (sound_pattern (item_at t p) (ih p (pattern_below t i p (and_l (pattern_row_lem t i p) (pattern_row_lem t i r) e))), sound_pattern (item_at t r) (ih r (pattern_below t i r (and_r (pattern_row_lem t i p) (pattern_row_lem t i r) e))))
    sound_row i h ih (is_concatenation p r) e q = (sound_pattern (item_at t p) (ih p (pattern_below t i p (and_l (pattern_row_lem t i p) (pattern_row_lem t i r) e))), sound_pattern (item_at t r) (ih r (pattern_below t i r (and_r (pattern_row_lem t i p) (pattern_row_lem t i r) e))))
    sound_row i h ih (is_conditioned p r) e q = sound_pattern (item_at t p) (ih p (pattern_below t i p (and_l (pattern_row_lem t i p) (condition_row t i r) e)))
    sound_row i h ih (is_repetition p r s) e q = (sound_pattern (item_at t p) (ih p (pattern_below t i p (and_l (pattern_row_lem t i p) (leb r 65534 && leb r s) e))), ap (on_pattern (repeats edgeless)) (sym q) ∙ bodies i h)
    sound_row i h ih (is_constant x k c) e q = tt
    sound_row i h ih (is_property x k y l) e q = tt
    sound_row i h ih (is_and p r) e q = tt
    sound_row i h ih (is_or p r) e q = tt
    sound_row i h ih (is_not p) e q = tt
    sound_row i h ih is_bad e q = tt

    pub sound_all : (i : ℕ) → i < length t → Sound (as_pattern (item_at t i))
    unfolding opened
    sound_all i h = sound_pattern (item_at t i) (every_row t SoundItem ok sound_row i h)

  module _ (flat : (i : ℕ) → i < length t → fault15 t i ≡ false) where
    deep_row : (i : ℕ) → i < length t → ((j : ℕ) → j < i → ShallowItem (item_at t j)) → (f : Form) → fine t i f ≡ true → item_at t i ≡ make (item_at t) f → ShallowItem (make (item_at t) f)
    unfolding opened
    deep_row i h ih (is_node_lem x l) e q = omega arith
    deep_row i h ih (is_edge d x l) e q = omega arith
    deep_row i h ih (is_union p r) e q = max_bound (nesting (as_pattern (item_at t p))) (nesting (as_pattern (item_at t r))) 2 (deep_pattern (item_at t p) (ih p (pattern_below t i p (and_l (pattern_row_lem t i p) (pattern_row_lem t i r) e)))) (deep_pattern (item_at t r) (ih r (pattern_below t i r (and_r (pattern_row_lem t i p) (pattern_row_lem t i r) e))))
    deep_row i h ih (is_concatenation p r) e q = max_bound (nesting (as_pattern (item_at t p))) (nesting (as_pattern (item_at t r))) 2 (deep_pattern (item_at t p) (ih p (pattern_below t i p (and_l (pattern_row_lem t i p) (pattern_row_lem t i r) e)))) (deep_pattern (item_at t r) (ih r (pattern_below t i r (and_r (pattern_row_lem t i p) (pattern_row_lem t i r) e))))
    deep_row i h ih (is_conditioned p r) e q = deep_pattern (item_at t p) (ih p (pattern_below t i p (and_l (pattern_row_lem t i p) (condition_row t i r) e)))
    deep_row i h ih (is_repetition p r s) e q = let z : nesting (as_pattern (item_at t p)) < 2 = leb-false 2 (nesting (as_pattern (item_at t p))) (ap (on_pattern (repeats two_deep)) (sym q) ∙ flat i h) in omega arith
    deep_row i h ih (is_constant x k c) e q = tt
    deep_row i h ih (is_property x k y l) e q = tt
    deep_row i h ih (is_and p r) e q = tt
    deep_row i h ih (is_or p r) e q = tt
    deep_row i h ih (is_not p) e q = tt
    deep_row i h ih is_bad e q = tt

    pub deep_all : (i : ℕ) → i < length t → nesting (as_pattern (item_at t i)) ≤ 2
    unfolding opened
    deep_all i h = deep_pattern (item_at t i) (every_row t ShallowItem ok deep_row i h)
