-- The ways through what the bookmark's first two words tell.
use mathlib.Core.Path.{◌∙◌, ◌≡◌, refl, sym}
use mathlib.Core.List.{List, [], ◌∷◌}
use Prim.Native.Nat.{◌<◌, ℕ}
use native.Mathlib.Omega.{arith}
use lib.ListN.{get_or}
use Rattle.std.specs.Prelude.{Some}
use Rattle.std.proofs.lemmas.Option.{get_or_from_slice_get, slice_get_within}
use Rattle.search.proofs.OnWay.{way_behind, way_off, way_start}
use Rattle.bookmarks.specs.declared.head.Head.{Head}
use Rattle.bookmarks.specs.declared.turn.Turn.{Turn}
use Rattle.bookmarks.specs.declared.turn.Turn.TheVariants.{Ahead, Behind, On}
use Rattle.bookmarks.specs.Heads.{HeadIs, LengthFrom, StartTurn}
use Rattle.bookmarks.specs.Turns.{Lies, TurnTo}
use Rattle.bookmarks.proofs.AfterLaws.{behind_more}
use Rattle.bookmarks.proofs.TurnWays.{turned}

-- ------------------------------------------------------------------ length_from
module _ (h : Head) (first : ℕ) where
  pub from_bookmark : {n : ℕ} → h.n ≡ Some n → first < n → LengthFrom h first n
  from_bookmark {n} e l = record {
    low = omega arith;
    behind_is = λ b i m k j.
        let w : get_or b 0 0 ≡ n = get_or_from_slice_get b 0 n 0 (sym i.n_is ∙ e) in
        way_behind [] b m (way_start b) (slice_get_within b 0 n (sym i.n_is ∙ e)) (omega arith);
  }

-- ------------------------------------------------------------------ turn
length_turn : (h : Head) (n : ℕ) (r : Turn) → TurnTo h.n n r → (b : List ℕ) → HeadIs b h → Lies b (n ∷ []) r
length_turn h n r t b i = turned b [] n (way_start b) r (rw i.n_is at t)

module _ {h : Head} {n u : ℕ} where
  -- of the bookmark's length
  pub turn_start : {r : Turn} → TurnTo h.n n On → TurnTo h.u u r → StartTurn h n u r
  turn_start {r} t s = record { lies = λ b i. turned b (n ∷ []) u (length_turn h n On t b i) r (rw i.u_is at s) }

  -- of another
  pub turn_length : {r : Turn} → TurnTo h.n n r → (r ≡ On → ⊥) → StartTurn h n u r
  turn_length {r} t other = record { lies = λ b i. go b r other (length_turn h n r t b i) }
    where
      go : (b : List ℕ) (r : Turn) → (r ≡ On → ⊥) → Lies b (n ∷ []) r → Lies b (n ∷ u ∷ []) r
      go b Behind f l = behind_more (n ∷ []) (u ∷ []) b l
      go b On f l = absurd (f refl)
      go b Ahead f l = way_off (n ∷ []) b u l
