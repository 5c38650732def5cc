-- Lengths that no answer has are dead.
use mathlib.Core.Path.{◌∙◌, ◌≡◌, ap, sym}
use mathlib.Core.List.{List, [], ◌++◌, ◌∷◌}
use mathlib.Core.Bool.{false, true}
use mathlib.Core.Option.{none}
use Prim.Native.Nat.{◌-◌, ◌/◌, ◌<◌, ℕ}
use native.Mathlib.Omega.{arith}
use lib.ListN.{length}
use Rattle.bits.specs.Sets.{set_of}
use Rattle.compiled.specs.Derived.{lengths_in}
use Rattle.compiled.specs.Parts.{pattern_in_lem, table_in}
use Rattle.compiled.proofs.Graphs.{valid}
use Rattle.compiled.specs.Sound.{Lawful}
use Rattle.meaning.proofs.Logic.{no_true}
use Rattle.meaning.specs.Assignment.{Assignment}
use Rattle.meaning.specs.Basics.{eight}
use Rattle.meaning.specs.Graph.{Graph, Walk, len}
use Rattle.compiled.specs.Words.{graph_in}
use Rattle.meaning.specs.Meaning.{Meaning}
use Rattle.meaning.specs.Record.{places, variable_words}
use Rattle.meaning.specs.Table.{pattern_fault}
use Rattle.plan.specs.Lengths.{LengthsAre}
use Rattle.promises.specs.Goals.{base_in, base_listing}
use Rattle.search.proofs.AnswerClasses.{answer_dead}
use Rattle.search.proofs.Beginnings.{head_is}
use Rattle.search.proofs.Opened.{search_opened}
use Rattle.search.specs.Classes.{Dead}
use Rattle.table.proofs.Roots.{root_accepted}
use Rattle.bounds.specs.Lengths.{OnlyLengths}
use Rattle.bounds.specs.Rows.{Possible}
use Rattle.bounds.proofs.RootLengths.{root_lengths}

module _ (plan : List ℕ) (ok : pattern_fault (table_in plan) ≡ none) where
  -- no match of the root row has the length
  length_dead : (graph : List ℕ) → Lawful graph → (n : ℕ) → ((p : Walk) (μ : Assignment) → Meaning (graph_in graph) (pattern_in_lem plan) p μ → len p ≡ n → ⊥) → Dead (n ∷ []) (base_listing graph plan)
  unfolding search_opened base_listing
  length_dead graph sound n h = answer_dead (graph_in graph) (valid graph sound) (pattern_in_lem plan) (root_accepted (table_in plan) ok).sound (record { base = base_in plan; shortest = false }) (n ∷ []) (λ p μ a k.
      h p μ a.base_answer.means (sym (head_is n (len p) [] (places p ++ variable_words eight μ) k)))

  -- a set that has the lengths of all matches
  only_in : (w : List ℕ) → ((G : Graph) (p : Walk) (μ : Assignment) → Meaning G (pattern_in_lem plan) p μ → len p < 256 → set_of w (len p) ≡ true) → OnlyLengths plan w
  only_in w m = record {
    dead = λ graph sound n l h. length_dead graph sound n (λ p μ a e. no_true (sym (m (graph_in graph) p μ a (omega arith)) ∙ (ap (set_of w) e ∙ h)));
  }

  pub only_these : (k : ℕ) (w : List ℕ) → k ≡ length (table_in plan) / 5 → Possible (table_in plan) (k - 1) w → OnlyLengths plan w
  only_these k w q m = only_in w (root_lengths plan ok k w q m)

  pub only_kept : (w : List ℕ) → LengthsAre plan → w ≡ lengths_in plan → OnlyLengths plan w
  only_kept w l e = rw e (only_in (lengths_in plan) l.is)
