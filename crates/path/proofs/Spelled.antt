-- The path that words spell: its length, its ends, its words, and one step more.
use mathlib.Core.Path.{◌∙◌, ◌≡◌, ap, ap₂, refl, sym}
use mathlib.Core.List.{List, ◌∷◌}
use Prim.Native.Nat.{◌*◌, ◌+◌, ◌<◌, ◌≤◌, suc, zero, ℕ}
use native.Mathlib.Numerals.{add-one}
use native.Mathlib.Omega.{arith}
use lib.ListN.{drop, get_or, length, length-set, set, take}
use lib.Seq.{drop-cons, get_or-set_other, get_or-set_same}
use Rattle.meaning.proofs.Opened.{opened}
use Rattle.meaning.specs.Graph.{Walk, len, step, stop, tgt}
use Rattle.meaning.specs.Record.{places}
use Rattle.path.specs.Walks.{edge_at, node_at, spelled, stepped}

pub len_spelled : (w : List ℕ) (i n : ℕ) → len (spelled w i n) ≡ n
unfolding opened spelled
len_spelled w i zero = refl
len_spelled w i (suc n) = ap suc (len_spelled w (suc i) n)

pub tgt_spelled : (w : List ℕ) (i n : ℕ) → tgt (spelled w i n) ≡ get_or w (2 * (i + n)) 0
unfolding opened spelled
tgt_spelled w i zero = let e : i ≡ i + 0 = omega arith in ap (λ (k : ℕ). get_or w (2 * k) 0) e
tgt_spelled w i (suc n) = let e : suc i + n ≡ i + suc n = omega arith in tgt_spelled w (suc i) n ∙ ap (λ (k : ℕ). get_or w (2 * k) 0) e

pub node_spelled : (w : List ℕ) (i n k : ℕ) → k ≤ n → node_at k (spelled w i n) ≡ get_or w (2 * (i + k)) 0
unfolding node_at spelled
node_spelled w i zero zero h = let e : i ≡ i + 0 = omega arith in ap (λ (j : ℕ). get_or w (2 * j) 0) e
node_spelled w i (suc n) zero h = let e : i ≡ i + 0 = omega arith in ap (λ (j : ℕ). get_or w (2 * j) 0) e
node_spelled w i zero (suc k) h = absurd (omega arith)
node_spelled w i (suc n) (suc k) h = let e : suc i + k ≡ i + suc k = omega arith in node_spelled w (suc i) n k (omega arith) ∙ ap (λ (j : ℕ). get_or w (2 * j) 0) e

pub edge_spelled : (w : List ℕ) (i n k : ℕ) → k < n → edge_at k (spelled w i n) ≡ get_or w (2 * (i + k) + 1) 0
unfolding edge_at spelled
edge_spelled w i zero k h = absurd (omega arith)
edge_spelled w i (suc n) zero h = let e : i ≡ i + 0 = omega arith in ap (λ (j : ℕ). get_or w (2 * j + 1) 0) e
edge_spelled w i (suc n) (suc k) h = let e : suc i + k ≡ i + suc k = omega arith in edge_spelled w (suc i) n k (omega arith) ∙ ap (λ (j : ℕ). get_or w (2 * j + 1) 0) e

-- one edge more
pub spelled_more : (w : List ℕ) (i n : ℕ) → spelled w i (suc n) ≡ stepped (spelled w i n) (get_or w (2 * (i + n) + 1) 0) (get_or w (2 * (i + n) + 2) 0)
unfolding opened spelled
spelled_more w i zero =
    let a : 2 * i + 1 ≡ 2 * (i + 0) + 1 = omega arith in
    let b : 2 * suc i ≡ 2 * (i + 0) + 2 = omega arith in
    ap₂ (λ (x y : ℕ). step (get_or w (2 * i) 0) (get_or w x 0) (stop (get_or w y 0))) a b
spelled_more w i (suc n) =
    let e : suc i + n ≡ i + suc n = omega arith in
    ap (step (get_or w (2 * i) 0) (get_or w (2 * i + 1) 0))
    (spelled_more w (suc i) n ∙ ap (λ (k : ℕ). stepped (spelled w (suc i) n) (get_or w (2 * k + 1) 0) (get_or w (2 * k + 2) 0)) e)

-- it is read off the words of its nodes and edges alone
pub spelled_same : (w v : List ℕ) (i n : ℕ) → ((j : ℕ) → j ≤ 2 * (i + n) → get_or w j 0 ≡ get_or v j 0) → spelled w i n ≡ spelled v i n
unfolding spelled
spelled_same w v i zero h = ap stop (h (2 * i) (omega arith))
spelled_same w v i (suc n) h =
    ap₂ (λ (x y : ℕ). step x y (spelled w (suc i) n)) (h (2 * i) (omega arith)) (h (2 * i + 1) (omega arith))
    ∙ ap (step (get_or v (2 * i) 0) (get_or v (2 * i + 1) 0)) (spelled_same w v (suc i) n (λ j k. h j (omega arith)))

-- its words are the words it is read off
pub places_spelled : (w : List ℕ) (i n : ℕ) → 2 * (i + n) < length w → places (spelled w i n) ≡ take (2 * n + 1) (drop (2 * i) w)
unfolding opened spelled
places_spelled w i zero h = rw (drop-cons w (2 * i) 0 (omega arith)) refl
places_spelled w i (suc n) h =
    let m : 2 * suc n + 1 ≡ suc (suc (2 * n + 1)) = omega arith in
    let k : suc (suc (2 * i)) ≡ 2 * suc i = omega arith in
    let e : drop (2 * i) w ≡ get_or w (2 * i) 0 ∷ get_or w (2 * i + 1) 0 ∷ drop (2 * suc i) w =
    drop-cons w (2 * i) 0 (omega arith) ∙ ap (λ (t : List ℕ). get_or w (2 * i) 0 ∷ t)
    (drop-cons w (suc (2 * i)) 0 (omega arith) ∙ ap₂ (λ (x y : ℕ). get_or w x 0 ∷ drop y w) (sym (add-one (2 * i))) k) in
    ap (λ (t : List ℕ). get_or w (2 * i) 0 ∷ get_or w (2 * i + 1) 0 ∷ t) (places_spelled w (suc i) n (omega arith))
    ∙ sym (ap₂ (λ (x : ℕ) (t : List ℕ). take x t) m e)

-- two stores behind the words are one step more
module _ (w : List ℕ) (n e v : ℕ) (room : 2 * n + 2 < length w) where
  abbrev two : List ℕ
  two = set (set w (2 * n + 1) e) (2 * n + 1 + 1) v

  before_two : (j : ℕ) → j ≤ 2 * (0 + n) → get_or two j 0 ≡ get_or w j 0
  before_two j h =
      get_or-set_other (set w (2 * n + 1) e) (2 * n + 1 + 1) j v 0 (λ q. omega arith) ∙ get_or-set_other w (2 * n + 1) j e 0 (λ q. omega arith)

  first_of_two : get_or two (2 * n + 1) 0 ≡ e
  first_of_two = get_or-set_other (set w (2 * n + 1) e) (2 * n + 1 + 1) (2 * n + 1) v 0 (λ q. omega arith) ∙ get_or-set_same w (2 * n + 1) e 0 (omega arith)

  second_of_two : get_or two (2 * n + 1 + 1) 0 ≡ v
  second_of_two = get_or-set_same (set w (2 * n + 1) e) (2 * n + 1 + 1) v 0 (rw length-set (omega arith))

  pub spelled_two : spelled (set (set w (2 * n + 1) e) (2 * n + 1 + 1) v) 0 (n + 1) ≡ stepped (spelled w 0 n) e v
  spelled_two =
      let a : 2 * (0 + n) + 1 ≡ 2 * n + 1 = omega arith in
      let b : 2 * (0 + n) + 2 ≡ 2 * n + 1 + 1 = omega arith in
      ap (spelled two 0) (add-one n)
      ∙ (spelled_more two 0 n
      ∙ (ap (λ (q : Walk). stepped q (get_or two (2 * (0 + n) + 1) 0) (get_or two (2 * (0 + n) + 2) 0)) (spelled_same two w 0 n before_two)
      ∙ ap₂ (stepped (spelled w 0 n)) (ap (λ (k : ℕ). get_or two k 0) a ∙ first_of_two) (ap (λ (k : ℕ). get_or two k 0) b ∙ second_of_two)))
