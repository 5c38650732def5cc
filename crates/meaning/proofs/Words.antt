-- The words of a record tell its path and its values, the types of the variables known.
use mathlib.Core.Path.{◌∙◌, ◌≡◌, ap, refl, sym}
use mathlib.Core.List.{List, [], ◌++◌, ◌∷◌, append_assoc, head-eq_of_cons-eq, tail-eq_of_cons-eq}
use mathlib.Core.Option.{Option, some}
use mathlib.Core.Logic.{◌≢◌, inl, inr}
use Prim.Native.Nat.{◌<◌, ℕ}
use native.Mathlib.Omega.{arith}
use native.Mathlib.Nat.{suc_inj}
use Rattle.meaning.proofs.Opened.{opened}
use Rattle.meaning.specs.Assignment.{AllOf, Assignment, Conforms, Entries, Of, Value, count, entry, group, no_entry, nothing, one}
use Rattle.meaning.specs.Basics.{All, eight}
use Rattle.meaning.specs.Graph.{Walk, len, step, stop, the_edge, the_node}
use Rattle.meaning.specs.Record.{entries_words, path_words_lem, places, record_of_lem, slot_words_lem, value_words_lem, variable_words}
use Rattle.meaning.specs.Typing.{Edge, Found, Group, Maybe, Node, Ty, absent, clash, typed}

cons_head : {x y : ℕ} {s t : List ℕ} → x ∷ s ≡ y ∷ t → x ≡ y
unfolding opened
cons_head e = head-eq_of_cons-eq e

cons_tail : {x y : ℕ} {s t : List ℕ} → x ∷ s ≡ y ∷ t → s ≡ t
unfolding opened
cons_tail e = tail-eq_of_cons-eq e

places_part : (p q : Walk) (s t : List ℕ) → len p ≡ len q → places p ++ s ≡ places q ++ t → (p ≡ q) × (s ≡ t)
unfolding opened
places_part (stop u) (stop v) s t l e = (ap stop (cons_head e), cons_tail e)
places_part (stop u) (step v f q) s t l e = absurd (omega arith)
places_part (step u f p) (stop v) s t l e = absurd (omega arith)
places_part (step u f p) (step v g q) s t l e =
    let h = places_part p q s t (suc_inj l) (cons_tail (cons_tail e)) in
    let a : u ≡ v = cons_head e in
    let b : f ≡ g = cons_head (cons_tail e) in
    let c : p ≡ q = h.0 in
    ((cc), h.1)

pub path_part : (p q : Walk) (s t : List ℕ) → path_words_lem p ++ s ≡ path_words_lem q ++ t → (p ≡ q) × (s ≡ t)
unfolding opened
path_part p q s t e = places_part p q s t (cons_head e) (cons_tail e)

-- ------------------------------------------------------------------ the words of a value tell the value, its type known
module _ (n m k : ℕ) (hn : n < 65535) (hm : m < 65535) (hk : k < 65535) where
  starts : (w v : Value) (t : List ℕ) {l : List ℕ} → w ≡ v → l ≡ value_words_lem w ++ t → l ≡ value_words_lem v ++ t
  unfolding opened
  starts w v t q e = e ∙ ap (λ (x : Value). value_words_lem x ++ t) q

  pub only_nothing : (τ : Ty) (w : Value) (s t : List ℕ) → Of n m k τ w → 65535 ∷ s ≡ value_words_lem w ++ t → (w ≡ nothing) × (s ≡ t)
  unfolding opened
  only_nothing Node w s t (u, h, q) e = let z : 65535 ≡ u = cons_head (starts w (one (the_node u)) t q e) in absurd (omega arith)
  only_nothing Edge w s t (u, h, q) e = let z : 65535 ≡ u = cons_head (starts w (one (the_edge u)) t q e) in absurd (omega arith)
  only_nothing (Maybe τ) w s t (inl q) e = (q, cons_tail (starts w nothing t q e))
  only_nothing (Maybe τ) w s t (inr o) e = only_nothing τ w s t o e
  only_nothing (Group τ) w s t (g, h, a, q) e = let z : 65535 ≡ count g = cons_head (starts w (group g) t q e) in absurd (omega arith)

  abbrev pub Parts : Ty → Type 0
  Parts τ = (v w : Value) (s t : List ℕ) → Of n m k τ v → Of n m k τ w → value_words_lem v ++ s ≡ value_words_lem w ++ t → (v ≡ w) × (s ≡ t)

  entries_part : (τ : Ty) → Parts τ → (g h : Entries) (s t : List ℕ) → AllOf (Of n m k τ) g → AllOf (Of n m k τ) h → count g ≡ count h → entries_words g ++ s ≡ entries_words h ++ t → (g ≡ h) × (s ≡ t)
  unfolding opened
  entries_part τ f no_entry no_entry s t a b c e = (refl, e)
  entries_part τ f no_entry (entry q w h) s t a b c e = absurd (omega arith)
  entries_part τ f (entry p v g) no_entry s t a b c e = absurd (omega arith)
  entries_part τ f (entry p v g) (entry q w h) s t a b c e =
      let e' : path_words_lem p ++ (value_words_lem v ++ (entries_words g ++ s)) ≡ path_words_lem q ++ (value_words_lem w ++ (entries_words h ++ t)) = simp append_assoc at e in
      let x = path_part p q (value_words_lem v ++ (entries_words g ++ s)) (value_words_lem w ++ (entries_words h ++ t)) e' in
      let y = f v w (entries_words g ++ s) (entries_words h ++ t) a.0 b.0 x.1 in
      let z = entries_part τ f g h s t a.1 b.1 (suc_inj c) y.1 in
      let xp : p ≡ q = x.0 in
      let yp : v ≡ w = y.0 in
      let zp : g ≡ h = z.0 in
      ((cc), z.1)

  pub parts : (τ : Ty) → Parts τ
  unfolding opened
  parts Node v w s t (u, h, q) (u', h', q') e =
      let z = starts w (one (the_node u')) t q' (sym (ap (λ (x : Value). value_words_lem x ++ s) q) ∙ e) in
      (q ∙ (ap (λ (x : ℕ). one (the_node x)) (cons_head z) ∙ sym q'), cons_tail z)
  parts Edge v w s t (u, h, q) (u', h', q') e =
      let z = starts w (one (the_edge u')) t q' (sym (ap (λ (x : Value). value_words_lem x ++ s) q) ∙ e) in
      (q ∙ (ap (λ (x : ℕ). one (the_edge x)) (cons_head z) ∙ sym q'), cons_tail z)
  parts (Maybe τ) v w s t (inl q) (inl q') e =
      let z = starts w nothing t q' (sym (ap (λ (x : Value). value_words_lem x ++ s) q) ∙ e) in (q ∙ sym q', cons_tail z)
  parts (Maybe τ) v w s t (inl q) (inr o) e =
      let z = only_nothing τ w s t o (sym (ap (λ (x : Value). value_words_lem x ++ s) q) ∙ e) in (q ∙ sym z.0, z.1)
  parts (Maybe τ) v w s t (inr o) (inl q) e =
      let z = only_nothing τ v t s o (sym (ap (λ (x : Value). value_words_lem x ++ t) q) ∙ sym e) in (z.0 ∙ sym q, sym z.1)
  parts (Maybe τ) v w s t (inr o) (inr o') e = parts τ v w s t o o' e
  parts (Group τ) v w s t (g, h, a, q) (g', h', a', q') e =
      let z = starts w (group g') t q' (sym (ap (λ (x : Value). value_words_lem x ++ s) q) ∙ e) in
      let y = entries_part τ (parts τ) g g' s t a a' (cons_head z) (cons_tail z) in
      (q ∙ (ap group y.0 ∙ sym q'), y.1)

  slot_part : (f : Found) (o o' : Option Value) (s t : List ℕ) → f ≢ clash → Conforms n m k f o → Conforms n m k f o' → slot_words_lem o ++ s ≡ slot_words_lem o' ++ t → (o ≡ o') × (s ≡ t)
  unfolding opened
  slot_part absent o o' s t h c c' e = (c ∙ sym c', sym (ap (λ (x : Option Value). slot_words_lem x ++ s) c) ∙ (e ∙ ap (λ (x : Option Value). slot_words_lem x ++ t) c'))
  slot_part clash o o' s t h c c' e = absurd (h refl)
  slot_part (typed τ) o o' s t h (v, q, a) (v', q', a') e =
      let z = parts τ v v' s t a a' (sym (ap (λ (x : Option Value). slot_words_lem x ++ s) q) ∙ (e ∙ ap (λ (x : Option Value). slot_words_lem x ++ t) q')) in
      (q ∙ (ap some z.0 ∙ sym q'), z.1)

  -- two assignments of one schema, none of whose variables clashes
  module _ (f : ℕ → Found) (h : (x : ℕ) → f x ≢ clash) (μ ν : Assignment) (c : (x : ℕ) → Conforms n m k (f x) (μ x)) (c' : (x : ℕ) → Conforms n m k (f x) (ν x)) where
    vars_part : (xs : List ℕ) (s t : List ℕ) → variable_words xs μ ++ s ≡ variable_words xs ν ++ t → All (λ x. μ x ≡ ν x) xs × (s ≡ t)
    unfolding opened
    vars_part [] s t e = (tt, e)
    vars_part (x ∷ xs) s t e =
        let z = slot_part (f x) (μ x) (ν x) (variable_words xs μ ++ s) (variable_words xs ν ++ t) (h x) (c x) (c' x)
        (sym (append_assoc (slot_words_lem (μ x)) (variable_words xs μ) s) ∙ (e ∙ append_assoc (slot_words_lem (ν x)) (variable_words xs ν) t)) in
        let y = vars_part xs s t z.1 in
        ((z.0, y.0), y.1)

    -- words that begin with a record of each: the paths are the same, so are the values, and so is what follows
    pub record_part : (p q : Walk) (s t : List ℕ) → record_of_lem p μ ++ s ≡ record_of_lem q ν ++ t → (p ≡ q) × All (λ x. μ x ≡ ν x) eight × (s ≡ t)
    unfolding opened
    record_part p q s t e =
        let e' : path_words_lem p ++ (variable_words eight μ ++ s) ≡ path_words_lem q ++ (variable_words eight ν ++ t) = sym (append_assoc (path_words_lem p) (variable_words eight μ) s) ∙ (e ∙ append_assoc (path_words_lem q) (variable_words eight ν) t) in
        let z = path_part p q (variable_words eight μ ++ s) (variable_words eight ν ++ t) e' in
        let y = vars_part eight s t z.1 in
        (z.0, y.0, y.1)
