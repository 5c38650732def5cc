-- No record is longer than 16,410 words: a variable under d repetitions takes at most 1 + 5 d n words on a path of n edges.
use mathlib.Core.Path.{◌∙◌, ◌≡◌, ap, refl}
use mathlib.Core.List.{List, [], ◌++◌, ◌∷◌, map}
use mathlib.Core.Option.{Option, none, some}
use mathlib.Core.Bool.{Bool, false, true}
use Prim.Native.Nat.{◌*◌, ◌+◌, ◌<◌, ◌≤◌, suc, zero, ℕ}
use native.Mathlib.Omega.{arith}
use lib.Dec.{eqb, leb}
use lib.ListN.{length, length-append}
use borrow.Author.Tests.{leb-false, leb-true}
use Rattle.meaning.proofs.Assignments.{has_an_edge}
use Rattle.meaning.proofs.Factors.{NonEmpty}
use Rattle.meaning.proofs.Logic.{all_map, either}
use Rattle.meaning.proofs.Opened.{opened}
use Rattle.meaning.specs.Assignment.{Assignment, Entries, Factor, Value, bind, entries, group, nothing, one, path_of_lem, value_of}
use Rattle.std.specs.Prelude.{if◌then◌else◌}
use Rattle.meaning.specs.Basics.{All, eight, max, or_else}
use Rattle.meaning.specs.Graph.{Graph, Walk, ◌·◌, len, step, stop, the_edge, the_node}
use Rattle.meaning.specs.Meaning.{Meaning, Product}
use Rattle.meaning.specs.Pattern.{Pattern, Sound, concatenation, conditioned, edge, in_var, nesting, node, repetition, union}
use Rattle.meaning.specs.Record.{entries_words, places, record_of_lem, slot_words_lem, value_words_lem, variable_words}

pub len_append : (p q : Walk) → len (p · q) ≡ len p + len q
unfolding opened
len_append (stop u) q = omega arith
len_append (step u e p) q = omega (arith, len_append p q)

pub length_places : (p : Walk) → length (places p) ≡ 2 * len p + 1
unfolding opened
length_places (stop u) = refl
length_places (step u e p) = omega (arith, length_places p)

max_le : (a b d : ℕ) → max a b ≤ d → (a ≤ d) × (b ≤ d)
unfolding opened
max_le a b d h = go (leb a b) refl h
  where
    go : (t : Bool) → leb a b ≡ t → (if t then b else a) ≤ d → (a ≤ d) × (b ≤ d)
    go true e h = let k : a ≤ b = leb-true a b e in (omega arith, h)
    go false e h = let k : b < a = leb-false a b e in (h, omega arith)

bind_size : (y : Option ℕ) (v : Value) (x : ℕ) → length (value_words_lem v) ≡ 1 → length (slot_words_lem (bind y v x)) ≤ 1
unfolding opened
bind_size none v x h = omega arith
bind_size (some y) v x h = go (eqb y x)
  where
    go : (b : Bool) → length (slot_words_lem (if b then some v else none)) ≤ 1
    go true = omega arith
    go false = omega arith

or_size : (a b : Option Value) (k : ℕ) → length (slot_words_lem a) ≤ k → length (slot_words_lem b) ≤ k → length (slot_words_lem (or_else a b)) ≤ k
unfolding opened
or_size none b k h g = g
or_size (some v) b k h g = h

nothing_size : (b : Bool) → length (slot_words_lem (if b then some nothing else none)) ≤ 1
unfolding opened
nothing_size true = omega arith
nothing_size false = omega arith

value_size : (o : Option Value) (k : ℕ) → length (slot_words_lem o) ≤ 1 + k → length (value_words_lem (value_of o)) ≤ 1 + k
unfolding opened
value_size none k h = omega arith
value_size (some v) k h = h

pub non_empty_len : (p : Walk) → NonEmpty p → 1 ≤ len p
unfolding opened
non_empty_len (stop u) n = absurd n
non_empty_len (step u e p) n = omega arith

module _ (G : Graph) where
  unfoldable pub Small : ℕ → Walk → Assignment → Type 0
  Small d p μ = (x : ℕ) → length (slot_words_lem (μ x)) ≤ 1 + 5 * (d * len p)

  group_size : (d x : ℕ) (fs : List Factor) (p : Walk) → All (λ f. NonEmpty f.0) fs → All (λ f. Small d f.0 f.1) fs → Product G (map path_of_lem fs) p → length (entries_words (entries x fs)) ≤ 5 * (suc d * len p)
  unfolding opened Small
  group_size d x [] p n a h = omega arith
  group_size d x (f ∷ fs) p n a h =
      let q : Walk = h.0 in
      let v : List ℕ = value_words_lem (value_of (f.1 x)) in
      let t : List ℕ = entries_words (entries x fs) in
      let ih : length t ≤ 5 * (suc d * len q) = group_size d x fs q n.1 a.1 h.1 in
      let s : length v ≤ 1 + 5 * (d * len f.0) = value_size (f.1 x) (5 * (d * len f.0)) (a.0 x) in
      let one : 1 ≤ len f.0 = non_empty_len f.0 n.0 in
      let e : len p ≡ len f.0 + len q = ap len h.3 ∙ len_append f.0 q in
      rw (e, length-append (places f.0) (v ++ t), length-append v t) (omega (arith, length_places f.0))

  at_var : {μ ν : Assignment} (x k : ℕ) → μ ≡ ν → length (slot_words_lem (ν x)) ≤ k → length (slot_words_lem (μ x)) ≤ k
  unfolding opened
  at_var x k e h = rw e h

  if_size : (b : Bool) (g : Entries) (k : ℕ) → length (entries_words g) ≤ k → length (slot_words_lem (if b then some (group g) else none)) ≤ 1 + k
  unfolding opened
  if_size true g k h = omega arith
  if_size false g k h = omega arith

  pub size : (π : Pattern) → Sound π → (d : ℕ) → nesting π ≤ d → (p : Walk) (μ : Assignment) → Meaning G π p μ → Small d p μ
  unfolding opened Small
  size (node y l) s d h p μ m x = let k = bind_size y (one (the_node m.n)) x refl in at_var x (1 + 5 * (d * len p)) m.assignment_is (omega arith)
  size (edge e y l) s d h p μ m x = let k = bind_size y (one (the_edge m.e)) x refl in at_var x (1 + 5 * (d * len p)) m.assignment_is (omega arith)
  size (union a b) s d h p μ m x =
      let n = max_le (nesting a) (nesting b) d h in
      let k = nothing_size (in_var (union a b) x) in
      at_var x (1 + 5 * (d * len p)) m.assignment_is (or_size (m.ν x) (if in_var (union a b) x then some nothing else none) (1 + 5 * (d * len p))
      (either m.either (λ r. size a s.0 d n.0 p m.ν r x) (λ r. size b s.1 d n.1 p m.ν r x)) (omega arith))
  size (concatenation a b) s d h p μ m x =
      let n = max_le (nesting a) (nesting b) d h in
      let e : len p ≡ len m.p₁ + len m.p₂ = ap len m.path_is ∙ len_append m.p₁ m.p₂ in
      let f : length (slot_words_lem (m.μ₁ x)) ≤ 1 + 5 * (d * len m.p₁) = size a s.0 d n.0 m.p₁ m.μ₁ m.first x in
      let g : length (slot_words_lem (m.μ₂ x)) ≤ 1 + 5 * (d * len m.p₂) = size b s.1 d n.1 m.p₂ m.μ₂ m.second x in
      at_var x (1 + 5 * (d * len p)) m.assignment_is (rw e (or_size (m.μ₁ x) (m.μ₂ x) (1 + 5 * (d * (len m.p₁ + len m.p₂))) (omega arith) (omega arith)))
  size (conditioned a θ) s d h p μ m x = size a s d h p μ m.answer x
  size (repetition a n k) s zero h p μ m x = absurd (omega arith)
  size (repetition a n k) s (suc d) h p μ m x =
      let fs : List Factor = m.factors in
      at_var x (1 + 5 * (suc d * len p)) m.assignment_is (if_size (in_var a x) (entries x fs) (5 * (suc d * len p))
      (group_size d x fs p (all_map (λ f r. has_an_edge G a s.0 s.1 f.0 f.1 r) fs m.answers) (all_map (λ f r. size a s.0 d (omega arith) f.0 f.1 r) fs m.answers) m.path_is))

  vars_size : (μ : Assignment) (k : ℕ) → ((x : ℕ) → length (slot_words_lem (μ x)) ≤ k) → (xs : List ℕ) → length (variable_words xs μ) ≤ length xs * k
  unfolding opened
  vars_size μ k h [] = omega arith
  vars_size μ k h (x ∷ xs) = omega (arith, length-append (slot_words_lem (μ x)) (variable_words xs μ), h x, vars_size μ k h xs)

  -- two repetitions deep, on a path of at most 200 edges: eight values of at most 2,001 words, and a path of at most 402
  pub record_size : (π : Pattern) → Sound π → nesting π ≤ 2 → (p : Walk) (μ : Assignment) → Meaning G π p μ → len p ≤ 200 → length (record_of_lem p μ) ≤ 16410
  unfolding opened Small
  record_size π s n p μ m h =
      let z = vars_size μ (1 + 5 * (2 * len p)) (size π s 2 n p μ m) eight in
      omega (arith, length-append (places p) (variable_words eight μ), length_places p)
