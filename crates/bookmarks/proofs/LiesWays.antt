-- The ways through `lies`.
use mathlib.Core.Path.{◌∙◌, ◌≡◌, ap, refl, subst, sym}
use mathlib.Core.List.{List, [], ◌++◌, ◌∷◌}
use mathlib.Core.Bool.{true}
use Prim.Native.Nat.{◌+◌, ◌<◌, ◌≤◌, suc, ℕ}
use native.Mathlib.Numerals.{add-one}
use native.Mathlib.Omega.{arith}
use lib.ListN.{drop, get_or, length, take}
use lib.Seq.{append_snoc, length-take-le, split_at, take-suc, take_all}
use Rattle.meaning.proofs.Logic.{no_true}
use Rattle.search.proofs.OnWay.{way_start}
use Rattle.search.proofs.Sides.{ahead_more}
use Rattle.search.specs.Side.{OnWay}
use Rattle.bookmarks.specs.Turns.{Lies, TurnIs}
use Rattle.bookmarks.specs.declared.turn.Turn.{Turn}
use Rattle.bookmarks.specs.declared.turn.Turn.TheVariants.{Ahead, Behind, On}
use Rattle.bookmarks.proofs.AfterLaws.{behind_more}

-- the bookmark goes on from the first i of the words
pub record OnSoFar (b words : List ℕ) (i : ℕ) : Type 0 where
  pub way : OnWay (take i words) b true

module _ {b words : List ℕ} where
  pub lies_start : OnSoFar b words 0
  lies_start = record { way = way_start b }

  pub lies_whole : {i : ℕ} → OnSoFar b words i → length words ≤ i → Lies b words On
  lies_whole {i} s h = rw (← take_all i words h) s.way

  -- one word more
  module _ {i : ℕ} (s : OnSoFar b words i) (h : i < length words) {v : ℕ} (v_is : v ≡ get_or words i 0) {t : Turn} (z : TurnIs b i v t) where
    abbrev so_far : List ℕ
    so_far = take i words ++ v ∷ []

    parts : words ≡ so_far ++ drop (suc i) words
    parts =
        split_at words i 0 h
        ∙ (ap (λ (k : ℕ). take i words ++ k ∷ drop (suc i) words) (sym v_is) ∙ sym (append_snoc (take i words) v (drop (suc i) words)))

    lie : Lies b so_far t
    lie = z.is (take i words) (length-take-le i words (omega arith)) s.way

    pub lies_off : (t ≡ On → ⊥) → Lies b words t
    lies_off other = subst (λ (x : List ℕ). Lies b x t) (sym parts) (go t other lie)
      where
        go : (t : Turn) → (t ≡ On → ⊥) → Lies b so_far t → Lies b (so_far ++ drop (suc i) words) t
        go Behind f l = behind_more so_far (drop (suc i) words) b l
        go On f l = absurd (f refl)
        go Ahead f l = record { yes_is = λ y. no_true (sym y); no_is = λ y. ahead_more so_far (drop (suc i) words) b (l.no_is y) }

    pub lies_more : t ≡ On → OnSoFar b words (i + 1)
    lies_more e = record { way = rw longer (rw e at lie) }
      where
        longer : take (i + 1) words ≡ so_far
        longer = ap (λ (k : ℕ). take k words) (add-one i) ∙ (take-suc words i 0 h ∙ ap (λ (k : ℕ). take i words ++ k ∷ []) (sym v_is))
