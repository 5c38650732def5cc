-- The words of a record, from the first on: the model's judge and path over them. Assumes nothing.
use mathlib.Core.Path.{◌≡◌, refl, ap, ◌∙◌}
use mathlib.Core.List.{List, [], ◌∷◌}
use Prim.Native.Nat.{ℕ, zero, suc, ◌+◌, ◌*◌, ◌≤◌}
use native.Mathlib.Omega.{arith}
use lib.ListN.{drop, get_or, length}
use lib.Seq.{get_or-drop}
use Rattle.matcher.proofs.Opened.{matcher_opened}
use Rattle.matcher.specs.Judge.{judge_path, judge_words_lem, path_in_lem}
use Rattle.matcher.specs.Records.{edge_word_lem, node_word_lem}
use Rattle.matcher.specs.Search.{subpath}
use Rattle.matcher.specs.Values.{skip}
use Rattle.meaning.specs.Basics.{eight}
use Rattle.meaning.specs.Graph.{Graph, step}
use Rattle.meaning.specs.Pattern.{Pattern}
use Rattle.path.specs.Walks.{spelled}
use Rattle.judge.specs.Judging.{told}

module _ (rec : List ℕ) (last : ℕ) where
  pub judge_words : (G : Graph) (π : Pattern) → 1 ≤ length rec → get_or rec 0 0 ≡ last → judge_words_lem G eight π rec ≡ judge_path G eight π last (drop 1 rec)
  unfolding judge_words_lem
  judge_words G π h e = go rec h e
    where
      go : (r : List ℕ) → 1 ≤ length r → get_or r 0 0 ≡ last → judge_words_lem G eight π r ≡ judge_path G eight π last (drop 1 r)
      go [] h e = absurd (omega arith)
      go (x ∷ ws) h e = ap (λ (L : ℕ). judge_path G eight π L ws) e

  pub path_told : 1 ≤ length rec → get_or rec 0 0 ≡ last → path_in_lem rec ≡ told rec last
  unfolding path_in_lem
  path_told h e = go rec h e
    where
      go : (r : List ℕ) → 1 ≤ length r → get_or r 0 0 ≡ last → path_in_lem r ≡ told r last
      go [] h e = absurd (omega arith)
      go (x ∷ ws) h e = ap (λ (L : ℕ). subpath (node_word_lem ws) (edge_word_lem ws) 0 L) e

pub node_word : (rec : List ℕ) (i : ℕ) → node_word_lem (drop 1 rec) i ≡ get_or rec (2 * i + 1) 0
unfolding node_word_lem
node_word rec i = let e : 1 + 2 * i ≡ 2 * i + 1 = omega arith in get_or-drop 1 rec (2 * i) 0 ∙ ap (λ (k : ℕ). get_or rec k 0) e

pub edge_word : (rec : List ℕ) (i : ℕ) → edge_word_lem (drop 1 rec) i ≡ get_or rec (2 * i + 2) 0
unfolding edge_word_lem
edge_word rec i = let e : 1 + (2 * i + 1) ≡ 2 * i + 2 = omega arith in get_or-drop 1 rec (2 * i + 1) 0 ∙ ap (λ (k : ℕ). get_or rec k 0) e

-- the path that words tell is the path that they spell
pub told_spelled : (ws : List ℕ) (i n : ℕ) → subpath (node_word_lem ws) (edge_word_lem ws) i n ≡ spelled ws i n
unfolding matcher_opened spelled
told_spelled ws i zero = refl
told_spelled ws i (suc n) = ap (step (get_or ws (2 * i) 0) (get_or ws (2 * i + 1) 0)) (told_spelled ws (suc i) n)

-- one word less, and one place less
pub skip_first : (rec : List ℕ) (k : ℕ) → 1 ≤ length rec → skip (k + 2) rec ≡ skip (k + 1) (drop 1 rec)
unfolding skip
skip_first [] k h = absurd (omega arith)
skip_first (x ∷ ws) k h = let e : k + 2 ≡ suc (k + 1) = omega arith in ap (λ (n : ℕ). skip n (x ∷ ws)) e
