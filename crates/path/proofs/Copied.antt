-- The words of a path copied to the beginning of a record.
use mathlib.Core.Path.{◌∙◌, ◌≡◌, ap, refl}
use mathlib.Core.List.{List, [], ◌++◌, ◌∷◌}
use Prim.Native.Nat.{◌+◌, ◌-◌, ◌≤◌, suc, ℕ}
use native.Mathlib.Omega.{arith}
use lib.ListN.{drop, length, set, take}
use Rattle.meaning.specs.Record.{path_words_lem, places}
use Rattle.meaning.specs.Report.{over}
use Rattle.path.proofs.Steps.{walk_length, walk_words}
use Rattle.path.specs.declared.path.Path.{Path}
use Rattle.path.specs.Walks.{walk_of, words_of}

-- words behind a word, and that word
behind_one : (c : ℕ) (w d : List ℕ) → 1 ≤ length d → set (take 1 d ++ w ++ drop (1 + length w) d) 0 c ≡ over (c ∷ w) d
unfolding over
behind_one c w [] h = absurd (omega arith)
behind_one c w (x ∷ d) h = let e : 1 + length w ≡ suc (length w) = omega arith in ap (λ (k : ℕ). c ∷ (w ++ drop k (x ∷ d))) e

-- m is what the copy of the lent part left
pub copied_behind : (c n : ℕ) (w d m : List ℕ) → n + 1 ≤ length d → m ≡ take 1 d ++ take (n - 0) (drop 0 w) ++ drop (1 + length (take (n - 0) (drop 0 w))) d
    → set m 0 c ≡ over (c ∷ take n w) d
copied_behind c n w d m h e =
    let o : n - 0 ≡ n = omega arith in
    ap (λ (l : List ℕ). set l 0 c) (e ∙ ap (λ (k : ℕ). take 1 d ++ take k w ++ drop (1 + length (take k w)) d) o) ∙ behind_one c (take n w) d (omega arith)

pub copied_path : (p : Path) (c : ℕ) (d d' : List ℕ) → length p.at ≡ 401 → p.len ≤ 200 → d' ≡ over (c ∷ words_of p) d → d' ≡ over (c ∷ places (walk_of p)) d
copied_path p c d d' l h e = e ∙ ap (λ (w : List ℕ). over (c ∷ w) d) (walk_words p (omega arith))

pub copied_whole : (p : Path) (d d' : List ℕ) → d' ≡ over (p.len ∷ places (walk_of p)) d → d' ≡ over (path_words_lem (walk_of p)) d
unfolding path_words_lem
copied_whole p d d' e = e ∙ rw (walk_length p) refl
