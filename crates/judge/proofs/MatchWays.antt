-- The values and the end of the path, against the model's judge. Assumes nothing.
use mathlib.Core.Path.{◌≡◌, refl, sym, ap, ◌∙◌}
use mathlib.Core.Bool.{Bool, false, ◌&&◌}
use mathlib.Core.List.{List, [], ◌∷◌}
use mathlib.Core.Option.{Option, none, some}
use Prim.Native.Nat.{ℕ, ◌+◌, ◌*◌, ◌-◌, ◌/◌, ◌<◌}
use native.Mathlib.Omega.{arith}
use lib.Dec.{eqb}
use lib.ListN.{drop, length, take}
use lib.Seq.{get_or-drop, take-length}
use borrow.Author.Tests.{eq-eqb, ne_eqb}
use Rattle.compiled.specs.Derived.{types_at}
use Rattle.compiled.specs.Parts.{pattern_in_lem, table_in}
use Rattle.matcher.proofs.Opened.{matcher_opened}
use Rattle.matcher.proofs.Places.{view_frontier, view_at}
use Rattle.matcher.specs.Judge.{at_end_lem}
use Rattle.matcher.specs.Records.{after_slots, record_ends_lem}
use Rattle.matcher.specs.Values.{skip}
use Rattle.matcher.specs.Views.{is_frontier}
use Rattle.meaning.specs.Basics.{eight}
use Rattle.compiled.specs.Words.{graph_in}
use Rattle.meaning.specs.Typing.{type_of}
use Rattle.ends.proofs.RowOfTable.{root_matchable, row_is}
use Rattle.promises.specs.Matched.{PathEnds}
use Rattle.plan.specs.Ready.{Prepared, root}
use Rattle.records.specs.Slots.{Slotted}
use Rattle.judge.specs.Judging.{Matches}
use Rattle.judge.proofs.ToldWords.{skip_first}

at_end_frontier : (o : Option (List ℕ)) → at_end_lem o ≡ is_frontier o
unfolding matcher_opened
at_end_frontier none = refl
at_end_frontier (some []) = refl
at_end_frontier (some (w ∷ ws)) = refl

module _ (graph plan fit rec : List ℕ) (last : ℕ) (h : Prepared graph plan fit rec (length rec) last) where
  -- the last row of the table
  pub row_few : (k : ℕ) → k ≡ length (table_in plan) / 5 → k - 1 < 64
  row_few k e = omega (arith, (root_matchable graph plan fit rec (length rec) last h).1.1)

  module _ (k : ℕ) (k_is : k ≡ length (table_in plan) / 5) (at : List ℕ) (end : ℕ) (s₀ : Slotted (take (length rec) rec) (drop (types_at (k - 1)) plan) (2 * last + 2) at end) where
    s : Slotted (take (length rec) rec) (drop (types_at (root (table_in plan))) plan) (2 * last + 2) at end
    s = rw k_is at s₀

    -- the values end where the words end
    ends_there : at_end_lem (after_slots eight (type_of (pattern_in_lem plan)) (skip (2 * last + 1) (drop 1 rec))) ≡ eqb end (length rec)
    ends_there =
        let f = type_of (pattern_in_lem plan) in
        let k : take (length rec) rec ≡ rec = take-length rec in
        let e : view_at rec end ≡ after_slots eight f (view_at rec (2 * last + 2)) = rw k at (s.ends f (λ x low high. get_or-drop (types_at (root (table_in plan))) plan x 0 ∙ (row_is graph plan fit rec (length rec) last h).planned.types x low high)) in
        ap (λ (o : Option (List ℕ)). at_end_lem (after_slots eight f o)) (sym (skip_first rec (2 * last) (omega (arith, h.path_known))))
        ∙ (ap at_end_lem (sym e) ∙ (at_end_frontier (view_at rec end) ∙ view_frontier rec end))

    pub match_ends : (r : Bool) → end ≡ length rec → PathEnds graph plan rec (length rec) last r → Matches graph plan rec last r
    match_ends r e p = record {
      is = p.is ∙ (ap (λ (l : List ℕ). record_ends_lem (graph_in graph) eight (pattern_in_lem plan) last (drop 1 l) last) (take-length rec)
          ∙ sym (ap (λ (b : Bool). b && record_ends_lem (graph_in graph) eight (pattern_in_lem plan) last (drop 1 rec) last) (ends_there ∙ eq-eqb end (length rec) e)));
    }

    pub match_no : (end ≡ length rec → ⊥) → Matches graph plan rec last false
    match_no n = record { is = sym (ap (λ (b : Bool). b && record_ends_lem (graph_in graph) eight (pattern_in_lem plan) last (drop 1 rec) last) (ends_there ∙ ne_eqb end (length rec) n)) }
