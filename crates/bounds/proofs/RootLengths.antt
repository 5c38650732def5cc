-- The lengths of the root row are those of the pattern: the way out of fill_lengths.
use mathlib.Core.Path.{◌∙◌, ◌≡◌, ap}
use mathlib.Core.List.{List}
use mathlib.Core.Bool.{true}
use mathlib.Core.Option.{none}
use Prim.Native.Nat.{◌-◌, ◌/◌, ◌<◌, ◌≤◌, ℕ}
use native.Mathlib.Omega.{arith}
use lib.ListN.{length}
use Rattle.bits.specs.Sets.{set_of}
use Rattle.compiled.proofs.Frames.{restrictor_kept, table_kept}
use Rattle.compiled.specs.Derived.{LengthsPut, watched_in}
use Rattle.compiled.specs.Parts.{HeadKept, Tabled, pattern_in_lem, table_in}
use Rattle.meaning.specs.Assignment.{Assignment}
use Rattle.meaning.specs.Graph.{Graph, Walk, len}
use Rattle.meaning.specs.Meaning.{Meaning}
use Rattle.meaning.specs.Table.{pattern_fault}
use Rattle.plan.proofs.Kept.{none_watched, plan_on, sound_on}
use Rattle.plan.specs.Lengths.{LengthsAre}
use Rattle.plan.specs.Ready.{root}
use Rattle.rows.specs.Faults.{Stands}
use Rattle.table.proofs.Roots.{root_long, root_pattern, root_stands}
use Rattle.bounds.specs.Lengths.{LengthsFilled}
use Rattle.bounds.specs.Rows.{Possible}

-- every row up to the root stands
pub row_there : (pattern : List ℕ) → pattern_fault pattern ≡ none → (n row : ℕ) → n ≡ length pattern / 5 → row ≤ n - 1 → Stands pattern row
row_there pattern ok n row e h = record { room = omega (arith, root_long pattern ok); formed = (root_stands pattern ok).formed }

module _ (plan : List ℕ) (ok : pattern_fault (table_in plan) ≡ none) (k : ℕ) (w : List ℕ) (q : k ≡ length (table_in plan) / 5) (m₀ : Possible (table_in plan) (k - 1) w) where
  -- no match of the pattern has a length that is not in the set
  pub root_lengths : (G : Graph) (p : Walk) (μ : Assignment) → Meaning G (pattern_in_lem plan) p μ → len p < 256 → set_of w (len p) ≡ true
  root_lengths = let m : Possible (table_in plan) (root (table_in plan)) w = rw q at m₀ in λ G p μ a. m.is G p μ (rw (root_pattern (table_in plan) ok) a)

  pub lengths_filled : (v : List ℕ) → Tabled plan → watched_in plan ≡ 0 → LengthsPut w plan v → LengthsFilled plan v
  lengths_filled v t z g =
      let h : HeadKept plan v = record { long = g.kept.long; low = λ j l. g.kept.low j (omega arith) } in
      let e : table_in v ≡ table_in plan = table_kept plan v t h in
      let l : LengthsAre v = record { is = λ G p μ a s. ap (λ (x : List ℕ). set_of x (len p)) g.here ∙ root_lengths G p μ (rw e at a) s } in
      record {
        ready = λ graph r. record { sound = sound_on graph plan v r.sound g.kept; plan_is = plan_on graph plan v r.sound g.kept r.plan_is; onward = none_watched graph v (g.watched ∙ z); lengths = l };
        unwatched = g.watched ∙ z;
        table_is = e;
        restrictor_is = restrictor_kept plan v t h;
      }
