-- Records are read off words: each record's own words tell where it ends, the types of the variables known.
use mathlib.Core.Path.{◌∙◌, ◌≡◌, ap, ap₂, refl, sym}
use mathlib.Core.List.{List, [], ◌++◌, ◌∷◌, append_assoc}
use mathlib.Core.Option.{Option}
use mathlib.Core.Bool.{Bool, false, true}
use mathlib.Core.Logic.{◌≢◌, inl, inr}
use Prim.Native.Nat.{◌+◌, ◌<◌, suc, ℕ}
use native.Mathlib.Omega.{arith}
use lib.Dec.{eqb}
use lib.ListN.{drop, get_or, length, length-append, take}
use lib.Seq.{drop-append-add}
use borrow.Author.Tests.{eqb-true}
use Rattle.meaning.proofs.Lists.{drop_front, take_front}
use Rattle.meaning.proofs.Opened.{opened}
use Rattle.meaning.proofs.Size.{length_places}
use Rattle.meaning.proofs.Words.{only_nothing}
use Rattle.meaning.specs.Assignment.{AllOf, Assignment, Conforms, Entries, Of, Value, count, entry, group, no_entry, nothing, one}
use Rattle.std.specs.Prelude.{if◌then◌else◌}
use Rattle.meaning.specs.Basics.{All, eight}
use Rattle.meaning.specs.Graph.{Walk}
use Rattle.meaning.specs.Page.{join}
use Rattle.meaning.specs.Record.{Record, element_word, entries_words, group_size_lem, path_size_lem, path_words_lem, record_of_lem, record_size_lem, records_in, slot_size_lem, slot_words_lem, value_size_lem, value_words_lem, variable_words, variables_size_lem}
use Rattle.meaning.specs.Typing.{Edge, Found, Group, Maybe, Node, Ty, absent, clash, typed}

pub path_size : (p : Walk) (s : List ℕ) → path_size_lem (path_words_lem p ++ s) ≡ length (path_words_lem p)
unfolding opened
path_size p s = omega (arith, length_places p)

-- the first word of a value
first_word : (v : Value) (s : List ℕ) → (x : ℕ) × (l : List ℕ) × (value_words_lem v ++ s ≡ x ∷ l)
unfolding opened
first_word (one x) s = (element_word x, s, refl)
first_word nothing s = (65535, s, refl)
first_word (group g) s = (count g, entries_words g ++ s, refl)

module _ (n m k : ℕ) (hn : n < 65535) (hm : m < 65535) (hk : k < 65535) where
  abbrev pub Sized : Ty → Type 0
  Sized τ = (v : Value) (s : List ℕ) → Of n m k τ v → value_size_lem τ (value_words_lem v ++ s) ≡ length (value_words_lem v)

  group_size : (τ : Ty) → Sized τ → (g : Entries) (s : List ℕ) → AllOf (Of n m k τ) g → group_size_lem (value_size_lem τ) (count g) (entries_words g ++ s) ≡ length (entries_words g)
  unfolding opened
  group_size τ f no_entry s a = refl
  group_size τ f (entry p v g) s a =
      let e : List ℕ = entries_words g in
      let w : List ℕ = path_words_lem p ++ (value_words_lem v ++ (e ++ s)) in
      let is : (path_words_lem p ++ (value_words_lem v ++ e)) ++ s ≡ w = simp append_assoc in
      let i : path_size_lem w ≡ length (path_words_lem p) = path_size p (value_words_lem v ++ (e ++ s)) in
      let past : drop (path_size_lem w) w ≡ value_words_lem v ++ (e ++ s) = drop_front (path_size_lem w) (path_words_lem p) (value_words_lem v ++ (e ++ s)) (sym i) in
      let j : value_size_lem τ (drop (path_size_lem w) w) ≡ length (value_words_lem v) = ap (value_size_lem τ) past ∙ f v (e ++ s) a.0 in
      let size : ℕ = path_size_lem w + value_size_lem τ (drop (path_size_lem w) w) in
      let q : size ≡ length (path_words_lem p) + length (value_words_lem v) = omega (arith, i, j) in
      let rest : drop size w ≡ e ++ s = ap (λ (x : ℕ). drop x w) q ∙ (drop-append-add (path_words_lem p) (value_words_lem v ++ (e ++ s)) (length (value_words_lem v)) ∙ drop_front (length (value_words_lem v)) (value_words_lem v) (e ++ s) refl) in
      let ih : group_size_lem (value_size_lem τ) (count g) (drop size w) ≡ length e = ap (group_size_lem (value_size_lem τ) (count g)) rest ∙ group_size τ f g s a.1 in
      let rowless : length (path_words_lem p ++ (value_words_lem v ++ e)) ≡ length (path_words_lem p) + (length (value_words_lem v) + length e) = length-append (path_words_lem p) (value_words_lem v ++ e) ∙ ap (λ (x : ℕ). length (path_words_lem p) + x) (length-append (value_words_lem v) e) in
      ap (group_size_lem (value_size_lem τ) (suc (count g))) is ∙ omega (arith, q, ih, rowless)

  pub value_size : (τ : Ty) → Sized τ
  unfolding opened
  value_size Node v s (u, h, q) = rw q refl
  value_size Edge v s (u, h, q) = rw q refl
  value_size (Maybe τ) v s (inl q) = rw q refl
  value_size (Maybe τ) v s (inr o) = go (eqb (get_or (value_words_lem v ++ s) 0 0) 65535) refl (value_size τ v s o)
    where
      is_nothing : (x : ℕ) (l : List ℕ) → value_words_lem v ++ s ≡ x ∷ l → x ≡ 65535 → length (value_words_lem v) ≡ 1
      is_nothing x l e q = ap (λ (y : Value). length (value_words_lem y)) (only_nothing n m k hn hm hk τ v l s o (ap (λ (y : ℕ). y ∷ l) (sym q) ∙ sym e)).0

      go : (b : Bool) → eqb (get_or (value_words_lem v ++ s) 0 0) 65535 ≡ b → value_size_lem τ (value_words_lem v ++ s) ≡ length (value_words_lem v) → (if b then 1 else value_size_lem τ (value_words_lem v ++ s)) ≡ length (value_words_lem v)
      go true e ih = let w = first_word v s in sym (is_nothing w.0 w.1 w.2 (sym (ap (λ (l : List ℕ). get_or l 0 0) w.2) ∙ eqb-true (get_or (value_words_lem v ++ s) 0 0) 65535 e))
      go false e ih = ih
  value_size (Group τ) v s (g, h, a, q) = rw q (ap suc (group_size τ (value_size τ) g s a))

  slot_size : (f : Found) (o : Option Value) (s : List ℕ) → f ≢ clash → Conforms n m k f o → slot_size_lem f (slot_words_lem o ++ s) ≡ length (slot_words_lem o)
  unfolding opened
  slot_size absent o s h c = rw c refl
  slot_size clash o s h c = absurd (h refl)
  slot_size (typed τ) o s h (v, q, a) = rw q (value_size τ v s a)

  module _ (f : ℕ → Found) (h : (x : ℕ) → f x ≢ clash) (μ : Assignment) (c : (x : ℕ) → Conforms n m k (f x) (μ x)) where
    variables_size : (xs s : List ℕ) → variables_size_lem f xs (variable_words xs μ ++ s) ≡ length (variable_words xs μ)
    unfolding opened
    variables_size [] s = refl
    variables_size (x ∷ xs) s =
        let a : List ℕ = slot_words_lem (μ x) in
        let b : List ℕ = variable_words xs μ in
        let w : List ℕ = a ++ (b ++ s) in
        let i : slot_size_lem (f x) w ≡ length a = slot_size (f x) (μ x) (b ++ s) (h x) (c x) in
        let past : drop (slot_size_lem (f x) w) w ≡ b ++ s = drop_front (slot_size_lem (f x) w) a (b ++ s) (sym i) in
        let ih : variables_size_lem f xs (drop (slot_size_lem (f x) w) w) ≡ length b = ap (variables_size_lem f xs) past ∙ variables_size xs s in
        ap (variables_size_lem f (x ∷ xs)) (append_assoc a b s) ∙ omega (arith, i, ih, length-append a b)

    pub record_size_is : (p : Walk) (s : List ℕ) → record_size_lem f (record_of_lem p μ ++ s) ≡ length (record_of_lem p μ)
    unfolding opened
    record_size_is p s =
        let a : List ℕ = path_words_lem p in
        let b : List ℕ = variable_words eight μ in
        let w : List ℕ = a ++ (b ++ s) in
        let i : path_size_lem w ≡ length a = path_size p (b ++ s) in
        let past : drop (path_size_lem w) w ≡ b ++ s = drop_front (path_size_lem w) a (b ++ s) (sym i) in
        let ih : variables_size_lem f eight (drop (path_size_lem w) w) ≡ length b = ap (variables_size_lem f eight) past ∙ variables_size eight s in
        ap (record_size_lem f) (append_assoc a b s) ∙ omega (arith, i, ih, length-append a b)

-- ------------------------------------------------------------------ records one after another
-- the record's own words tell where it ends, whatever follows
abbrev pub Readable : (ℕ → Found) → Record → Type 0
Readable f r = (s : List ℕ) → record_size_lem f (r ++ s) ≡ length r

-- words that are records one after another part into just these records
pub records_read : (f : ℕ → Found) (rs : List Record) → All (Readable f) rs → (s : List ℕ) → records_in f (length rs) (join rs ++ s) ≡ rs
unfolding opened
records_read f [] h s = refl
records_read f (r ∷ rs) h s =
    let w : List ℕ = r ++ (join rs ++ s) in
    let i : record_size_lem f w ≡ length r = h.0 (join rs ++ s) in
    let t : take (record_size_lem f w) w ≡ r = take_front (record_size_lem f w) r (join rs ++ s) (sym i) in
    let d : drop (record_size_lem f w) w ≡ join rs ++ s = drop_front (record_size_lem f w) r (join rs ++ s) (sym i) in
    ap (records_in f (suc (length rs))) (append_assoc r (join rs) s) ∙ ap₂ (λ (a : Record) (l : List Record). a ∷ l) t (ap (records_in f (length rs)) d ∙ records_read f rs h.1 s)
