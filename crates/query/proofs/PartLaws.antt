-- The parts of words that are laid out: how many, and what each is.
use mathlib.Core.Path.{◌∙◌, ◌≡◌, ap, ap₂, refl}
use mathlib.Core.List.{List, [], ◌∷◌}
use mathlib.Core.Bool.{false, not, ◌&&◌}
use Prim.Native.Nat.{ℕ, zero, suc, ◌+◌, ◌*◌, ◌<◌, ◌≤◌}
use native.Mathlib.Omega.{arith}
use lib.Dec.{eqb, leb}
use lib.ListN.{drop, get_or, length, take}
use lib.Seq.{drop-cons, drop-drop, get_or-drop, length-take-le, split_at}
use borrow.Author.Tests.{eqb-true, leb-true}
use Rattle.meaning.proofs.Logic.{and_l, and_r, no_true, not_false, or_false_l, or_false_r}
use Rattle.meaning.proofs.QueryGranted.{length_parts}
use Rattle.meaning.specs.QueryWords.{Part, bad_layout_lem, lengths_of, parts_from, parts_of}
use Rattle.query.specs.Parts.{PartIs, part_in}
use Rattle.query.specs.declared.layout.Part.{Part as PartRead}

-- ------------------------------------------------------------------ heads
pub lengths_more : (k : ℕ) (heads : List ℕ) → lengths_of (suc k) heads ≡ lengths_of k heads + get_or heads (3 * k + 2) 0
unfolding lengths_of
lengths_more zero heads = omega arith
lengths_more (suc k) heads =
    let e : 3 + (3 * k + 2) ≡ 3 * suc k + 2 = omega arith in
    let g : get_or (drop 3 heads) (3 * k + 2) 0 ≡ get_or heads (3 * suc k + 2) 0 = get_or-drop 3 heads (3 * k + 2) 0 ∙ ap (λ (j : ℕ). get_or heads j 0) e in
    omega (arith, lengths_more k (drop 3 heads), g)

pub lengths_rise : (i n : ℕ) (heads : List ℕ) → i ≤ n → lengths_of i heads ≤ lengths_of n heads
unfolding lengths_of
lengths_rise zero n heads h = omega arith
lengths_rise (suc i) zero heads h = absurd (omega arith)
lengths_rise (suc i) (suc n) heads h = omega (arith, lengths_rise i n (drop 3 heads) (omega arith))

-- ------------------------------------------------------------------ one part
made : {a b c d : ℕ} {v w : List ℕ} → a ≡ b → c ≡ d → v ≡ w → ◌≡◌ {A = Part} (record { restrictor = a; name = c; words = v }) (record { restrictor = b; name = d; words = w })
made e f g = cc

-- the part i of these heads and patterns
abbrev headed : List ℕ → List ℕ → ℕ → Part
headed heads patterns i = record { restrictor = get_or heads (3 * i) 0; name = get_or heads (3 * i + 1) 0; words = take (get_or heads (3 * i + 2) 0) (drop (lengths_of i heads) patterns) }

parts_get : (n : ℕ) (heads patterns : List ℕ) (i : ℕ) (d : Part) → i < n → get_or (parts_from n heads patterns) i d ≡ headed heads patterns i
unfolding parts_from lengths_of
parts_get zero heads patterns i d h = absurd (omega arith)
parts_get (suc n) heads patterns zero d h = refl
parts_get (suc n) heads patterns (suc i) d h =
    parts_get n (drop 3 heads) (drop (get_or heads 2 0) patterns) i d (omega arith)
    ∙ made (past (3 * i) (3 * suc i) (omega arith)) (past (3 * i + 1) (3 * suc i + 1) (omega arith))
    (ap₂ (λ (k : ℕ) (l : List ℕ). take k l) (past (3 * i + 2) (3 * suc i + 2) (omega arith)) (drop-drop (lengths_of i (drop 3 heads)) (get_or heads 2 0) patterns))
  where
    past : (a b : ℕ) → 3 + a ≡ b → get_or (drop 3 heads) a 0 ≡ get_or heads b 0
    past a b e = get_or-drop 3 heads a 0 ∙ ap (λ (j : ℕ). get_or heads j 0) e

-- ------------------------------------------------------------------ the layout
pub record Laid (query : List ℕ) : Type 0 where
  pub some_word : 1 ≤ length query
  pub some_part : 1 ≤ get_or query 0 0
  pub few : get_or query 0 0 ≤ 4
  pub count : length (parts_of query) ≡ get_or query 0 0
  pub whole : length query ≡ 1 + 3 * get_or query 0 0 + lengths_of (get_or query 0 0) (drop 1 query)

pub laid_by : (query : List ℕ) → bad_layout_lem query ≡ false → Laid query
unfolding bad_layout_lem parts_of
laid_by [] e = no_true e
laid_by (n ∷ w) e =
    let a = not_false (leb 1 n && leb n 4) (or_false_l (not (leb 1 n && leb n 4)) (not (eqb (length w) (3 * n + lengths_of n w))) e) in
    let b = not_false (eqb (length w) (3 * n + lengths_of n w)) (or_false_r (not (leb 1 n && leb n 4)) (not (eqb (length w) (3 * n + lengths_of n w))) e) in
    let c : length w ≡ 3 * n + lengths_of n w = eqb-true (length w) (3 * n + lengths_of n w) b in
    record { some_word = omega arith; some_part = leb-true 1 n (and_l (leb 1 n) (leb n 4) a); few = leb-true n 4 (and_r (leb 1 n) (leb n 4) a); count = length_parts n w (drop (3 * n) w); whole = omega arith }

-- ------------------------------------------------------------------ the part i by the words
pub laid_part : (query : List ℕ) (l : Laid query) (i : ℕ) (d : Part) → i < length (parts_of query)
    → get_or (parts_of query) i d ≡ record { restrictor = get_or query (1 + 3 * i) 0; name = get_or query (1 + 3 * i + 1) 0; words = take (get_or query (1 + 3 * i + 2) 0) (drop (1 + 3 * get_or query 0 0 + lengths_of i (drop 1 query)) query) }
unfolding parts_of
laid_part [] l i d h = absurd (omega (arith, l.some_word))
laid_part (n ∷ w) l i d h =
    parts_get n w (drop (3 * n) w) i d (omega (arith, l.count))
    ∙ made (past (3 * i) (1 + 3 * i) (omega arith)) (past (3 * i + 1) (1 + 3 * i + 1) (omega arith)) (ap₂ (λ (k : ℕ) (v : List ℕ). take k v) (past (3 * i + 2) (1 + 3 * i + 2) (omega arith)) behind)
  where
    past : (a b : ℕ) → suc a ≡ b → get_or w a 0 ≡ get_or (n ∷ w) b 0
    past a b e = ap (λ (j : ℕ). get_or (n ∷ w) j 0) e

    behind : drop (lengths_of i w) (drop (3 * n) w) ≡ drop (1 + 3 * n + lengths_of i w) (n ∷ w)
    behind = let e : suc (3 * n + lengths_of i w) ≡ 1 + 3 * n + lengths_of i w = omega arith in drop-drop (lengths_of i w) (3 * n) w ∙ ap (λ (j : ℕ). drop j (n ∷ w)) e

-- ------------------------------------------------------------------ a part that was looked up
module _ (query : List ℕ) (i : ℕ) (r : PartRead) (p : PartIs query i r) (h : i < length (parts_of query)) where
  pub from_part : drop i (parts_of query) ≡ part_in query r ∷ drop (suc i) (parts_of query)
  from_part =
      let e = drop-cons (parts_of query) i (part_in query r) h in
      e ∙ ap (λ (a : Part). a ∷ drop (suc i) (parts_of query)) here
    where
      here : get_or (parts_of query) i (part_in query r) ≡ part_in query r
      here = p.is (take i (parts_of query)) (get_or (parts_of query) i (part_in query r)) (drop (suc i) (parts_of query)) (split_at (parts_of query) i (part_in query r) h) (length-take-le i (parts_of query) (omega arith))
