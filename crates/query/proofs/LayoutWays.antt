-- The ways through the functions that look up the layout.
use mathlib.Core.Path.{◌∙◌, ◌≡◌, ap, refl, sym}
use mathlib.Core.List.{List, [], ◌∷◌, ◌++◌}
use mathlib.Core.Bool.{Bool, false, true, not}
use Prim.Native.Nat.{ℕ, suc, ◌+◌, ◌-◌, ◌*◌, ◌<◌, ◌≤◌}
use native.Mathlib.Numerals.{add-one}
use native.Mathlib.Omega.{arith}
use lib.Dec.{eqb, ltb}
use lib.ListN.{drop, get_or, length}
use lib.Seq.{get_or_at, get_or-drop}
use borrow.Author.Tests.{eq-eqb, eqb-false, eqb-true, le-leb, lt-leb, ltb-true, ne_eqb}
use Rattle.meaning.specs.QueryWords.{Part, bad_layout_lem, lengths_of, parts_of}
use Rattle.query.proofs.PartLaws.{Laid, laid_by, laid_part, lengths_more, lengths_rise}
use Rattle.query.specs.Parts.{PartIs, PartsCounted, StartIs, part_in}
use Rattle.query.specs.declared.layout.Part.{Part as PartRead}

-- ------------------------------------------------------------------ pattern_start
-- the lengths of k patterns are added
pub record Adding (query : List ℕ) (n i from k : ℕ) : Type 0 where
  pub upto : k ≤ i
  pub is : from ≡ 1 + 3 * n + lengths_of k (drop 1 query)
  pub small : from ≤ 13 + 65536 * k

module _ (query : List ℕ) (n i : ℕ) where
  pub adding_none : n ≤ 4 → Adding query n i (1 + 3 * n) 0
  unfolding lengths_of
  adding_none h = record { upto = omega arith; is = omega arith; small = omega arith }

  module _ (from k : ℕ) (a : Adding query n i from k) where
    pub adding_more : k < i → (word : ℕ) → word ≡ get_or query (3 * k + 3) 0 → word < 65536 → Adding query n i (from + word) (k + 1)
    adding_more h word e l =
        let f : 1 + (3 * k + 2) ≡ 3 * k + 3 = omega arith in
        let g : get_or (drop 1 query) (3 * k + 2) 0 ≡ word = get_or-drop 1 query (3 * k + 2) 0 ∙ ap (λ (j : ℕ). get_or query j 0) f ∙ sym e in
        let m : lengths_of (k + 1) (drop 1 query) ≡ lengths_of k (drop 1 query) + get_or (drop 1 query) (3 * k + 2) 0 = ap (λ (j : ℕ). lengths_of j (drop 1 query)) (add-one k) ∙ lengths_more k (drop 1 query) in
        record { upto = omega arith; is = omega (arith, a.is, g, m); small = omega (arith, a.small) }

    pub adding_all : i ≤ k → StartIs query n i from
    adding_all h = let e : k ≡ i = omega (arith, a.upto) in record { is = a.is ∙ ap (λ (j : ℕ). 1 + 3 * n + lengths_of j (drop 1 query)) e; small = omega (arith, a.small) }

-- ------------------------------------------------------------------ bad_layout
pub layout_empty : (query : List ℕ) → length query ≡ 0 → true ≡ bad_layout_lem query
unfolding bad_layout_lem
layout_empty [] h = refl
layout_empty (n ∷ w) h = absurd (omega arith)

-- n is the first word
pub layout_none : (query : List ℕ) (n : ℕ) → n ≡ get_or query 0 0 → n < 1 → true ≡ bad_layout_lem query
unfolding bad_layout_lem
layout_none [] n e h = refl
layout_none (m ∷ w) n e h = rw (lt-leb 1 m (omega arith)) refl

pub layout_many : (query : List ℕ) (n : ℕ) → n ≡ get_or query 0 0 → 4 < n → true ≡ bad_layout_lem query
unfolding bad_layout_lem
layout_many [] n e h = refl
layout_many (m ∷ w) n e h = rw (le-leb 1 m (omega arith), lt-leb m 4 (omega arith)) refl

-- one to four parts: it goes by the number of words
counted : (n : ℕ) (w : List ℕ) → 1 ≤ n → n ≤ 4 → bad_layout_lem (n ∷ w) ≡ not (eqb (length w) (3 * n + lengths_of n w))
unfolding bad_layout_lem
counted n w g h = rw (le-leb 1 n g, le-leb n 4 h) refl

pub layout_short : (query : List ℕ) (n : ℕ) → n ≡ get_or query 0 0 → 1 ≤ n → n ≤ 4 → length query < 1 + 3 * n → true ≡ bad_layout_lem query
unfolding bad_layout_lem
layout_short [] n e g h l = refl
layout_short (m ∷ w) n e g h l = sym (counted m w (omega arith) (omega arith) ∙ ap not (ne_eqb (length w) (3 * m + lengths_of m w) (λ z. omega arith)))

module _ (query : List ℕ) (n s : ℕ) (some_word : length query ≡ 0 → ⊥) (e : n ≡ get_or query 0 0) (g : 1 ≤ n) (h : n ≤ 4) (start : StartIs query n n s) where
  layout_whole : s ≡ length query → false ≡ bad_layout_lem query
  layout_whole = go query some_word e start.is
    where
      go : (v : List ℕ) → (length v ≡ 0 → ⊥) → n ≡ get_or v 0 0 → s ≡ 1 + 3 * n + lengths_of n (drop 1 v) → s ≡ length v → false ≡ bad_layout_lem v
      go [] x e k z = absurd (x refl)
      go (m ∷ w) x e k z = let f : lengths_of n w ≡ lengths_of m w = ap (λ (j : ℕ). lengths_of j w) e in sym (counted m w (omega arith) (omega arith) ∙ ap not (eq-eqb (length w) (3 * m + lengths_of m w) (omega arith)))

  layout_other : (s ≡ length query → ⊥) → true ≡ bad_layout_lem query
  layout_other = go query some_word e start.is
    where
      go : (v : List ℕ) → (length v ≡ 0 → ⊥) → n ≡ get_or v 0 0 → s ≡ 1 + 3 * n + lengths_of n (drop 1 v) → (s ≡ length v → ⊥) → true ≡ bad_layout_lem v
      go [] x e k z = absurd (x refl)
      go (m ∷ w) x e k z = let f : lengths_of n w ≡ lengths_of m w = ap (λ (j : ℕ). lengths_of j w) e in sym (counted m w (omega arith) (omega arith) ∙ ap not (ne_eqb (length w) (3 * m + lengths_of m w) (λ y. z (omega arith))))

  pub layout_told : not (eqb s (length query)) ≡ bad_layout_lem query
  layout_told = told (eqb s (length query)) refl
    where
      told : (b : Bool) → eqb s (length query) ≡ b → not b ≡ bad_layout_lem query
      told true q = layout_whole (eqb-true s (length query) q)
      told false q = layout_other (eqb-false s (length query) q)

-- ------------------------------------------------------------------ parts and part_at
module _ (query : List ℕ) (ok : bad_layout_lem query ≡ false) where
  pub some_word : 0 < length query
  some_word = (laid_by query ok).some_word

  pub parts_counted : (r : ℕ) → r ≡ get_or query 0 0 → PartsCounted query r
  parts_counted r e = let l = laid_by query ok in record { is = e ∙ sym l.count; some_part = omega (arith, l.some_part); few = omega (arith, l.few) }

  pub heads_room : (n : ℕ) → PartsCounted query n → 1 + 3 * n ≤ length query
  heads_room n c = let l = laid_by query ok in omega (arith, l.whole, l.count, c.is)

  -- the words of the head of part i
  pub head_room : (i k : ℕ) → i < length (parts_of query) → ltb k 3 ≡ true → 1 + 3 * i + k < length query
  head_room i k h e = let l = laid_by query ok in omega (arith, l.whole, l.count, ltb-true k 3 e)

  pub head_begins : (i : ℕ) → i < length (parts_of query) → 1 + 3 * i < length query
  head_begins i h = omega (arith, head_room i 0 h refl)

  pub part_found : (n i from restrictor name long : ℕ) → i < length (parts_of query) → PartsCounted query n → StartIs query n i from
      → restrictor ≡ get_or query (1 + 3 * i) 0 → restrictor < 65536 → name ≡ get_or query (1 + 3 * i + 1) 0 → name < 65536 → long ≡ get_or query (1 + 3 * i + 2) 0
      → PartIs query i (record { restrictor = restrictor; name = name; from = from; to = from + long })
  part_found n i from restrictor name long h c s re rl ne nl le = record { is = found; among = omega (arith, c.is, c.few); rises = omega arith; within = ends; restrictor_fits = rl; name_fits = nl }
    where
      l : Laid query
      l = laid_by query ok

      n_is : n ≡ get_or query 0 0
      n_is = c.is ∙ l.count

      start : from ≡ 1 + 3 * get_or query 0 0 + lengths_of i (drop 1 query)
      start = s.is ∙ ap (λ (j : ℕ). 1 + 3 * j + lengths_of i (drop 1 query)) n_is

      ends : from + long ≤ length query
      ends =
          let f : 1 + (3 * i + 2) ≡ 1 + 3 * i + 2 = omega arith in
          let g : get_or (drop 1 query) (3 * i + 2) 0 ≡ long = get_or-drop 1 query (3 * i + 2) 0 ∙ ap (λ (j : ℕ). get_or query j 0) f ∙ sym le in
          omega (arith, start, l.whole, lengths_more i (drop 1 query), g, lengths_rise (suc i) (get_or query 0 0) (drop 1 query) (omega (arith, l.count)))

      read : PartRead
      read = record { restrictor = restrictor; name = name; from = from; to = from + long }

      here : (d : Part) → get_or (parts_of query) i d ≡ part_in query read
      here d = let e : from + long - from ≡ long = omega arith in laid_part query l i d h ∙ sym (rw (e, re, ne, le, start) refl)

      found : (l₀ : List Part) (a : Part) (l₁ : List Part) → parts_of query ≡ l₀ ++ a ∷ l₁ → length l₀ ≡ i → a ≡ part_in query read
      found l₀ a l₁ e k = sym (get_or_at l₀ a l₁ a i k) ∙ ap (λ (v : List Part). get_or v i a) (sym e) ∙ here a
