-- What the evaluation of a condition row answers.
use Rattle.std.specs.Prelude.{◌≡◌, List, ℕ}
use Rattle.matcher.specs.Conditions.{truths}
use Rattle.matcher.specs.Views.{View}
use Rattle.meaning.specs.Graph.{Graph}
use Rattle.meaning.specs.Pattern.{Condition}
use Rattle.meaning.specs.Table.{condition_item_lem, item_at, rows_of}
use Rattle.meaning.specs.Typing.{Found}
use Rattle.conditions.specs.declared.bound.Bound.{Bound}
use Rattle.conditions.specs.declared.truth.Truths.{Truths}
use Rattle.conditions.specs.Bound.{Binds}
use Rattle.conditions.specs.Truths.{truths_of}

-- the row of the table is the condition, by the definitions' own reading of rows
abbrev pub ConditionIs : List ℕ → Condition → ℕ → Type 0
ConditionIs t θ row = item_at (rows_of t) row ≡ condition_item_lem θ

-- r is the model's answer for the row's condition, in the graph
pub record Evaluates (G : Graph) (pattern : List ℕ) (row : ℕ) (b : Bound) (r : Truths) : Type 0 where
  pub is : (θ : Condition) → ConditionIs pattern θ row → (f : ℕ → Found) (v : View) → Binds b f v → truths_of r ≡ truths G f v θ
