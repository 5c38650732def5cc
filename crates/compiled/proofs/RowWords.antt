-- The variables and the types of the rows, filled in behind the table: the ways out of fill_rows and fill_part. Assumes nothing.
use mathlib.Core.Path.{◌≡◌, ap, ◌∙◌}
use mathlib.Core.List.{List, ◌++◌, append_assoc}
use mathlib.Core.Option.{none}
use Prim.Native.Nat.{ℕ, ◌+◌, ◌-◌, ◌*◌, ◌/◌, ◌<◌, ◌≤◌}
use native.Mathlib.Omega.{arith}
use lib.ListN.{get_or-append, drop, get_or, length, length-append, length-drop, take}
use lib.Seq.{get_or-append-add, get_or-take, length-take-le}
use Rattle.meaning.specs.Basics.{eight}
use Rattle.meaning.specs.Table.{pattern_fault}
use Rattle.meaning.specs.Typing.{type_of}
use Rattle.table.proofs.Filling.{list_at, type_stands}
use Rattle.table.specs.Variables.{list_of, mask_of, pattern_at_lem, type_at, variables_at_lem}
use Rattle.typecode.specs.Codes.{code_of}
use Rattle.compiled.specs.Copies.{RowsFilled}
use Rattle.compiled.specs.Derived.{plan_words}
use Rattle.compiled.proofs.Parts.{accepted_short}

-- ------------------------------------------------------------------ the words
module _ (pattern : List ℕ) (e : pattern_fault pattern ≡ none) where
  module _ (plan₀ plan types : List ℕ) (room : 576 ≤ length plan₀) (long : length plan ≡ length plan₀)
      (plan_is : plan ≡ list_of (variables_at_lem pattern) (length pattern / 5) ++ drop (length pattern / 5) plan₀) where
    rest : List ℕ
    rest = drop (8 * (length pattern / 5)) (take (length plan - 64) (drop 64 plan))

    post : List ℕ
    post = drop (length plan - 64) (drop 64 plan)

    front : length (take 64 plan) ≡ 64
    front = length-take-le 64 plan (omega arith)

    module _ (types_long : length types ≡ length (take (length plan - 64) (drop 64 plan))) (types_are : types ≡ list_of (type_at pattern) (8 * (length pattern / 5)) ++ rest) where
      filled : List ℕ
      filled = take 64 plan ++ (types ++ post)

      module _ (i : ℕ) (inside : i * 5 + 5 ≤ length pattern) where
        variables_at : get_or filled i 0 ≡ mask_of (pattern_at_lem pattern i) eight
        unfolding filled variables_at_lem
        variables_at =
            let s = accepted_short pattern e in
            get_or-append (take 64 plan) (types ++ post) 0 i (omega (arith, front))
            ∙ get_or-take 64 plan i 0 (omega arith)
            ∙ ap (λ (l : List ℕ). get_or l i 0) plan_is
            ∙ list_at (variables_at_lem pattern) (length pattern / 5) i (drop (length pattern / 5) plan₀) (omega arith)

        types_at : (x : ℕ) → 1 ≤ x → x < 9 → get_or filled (8 * i + 63 + x) 0 ≡ code_of (type_of (pattern_at_lem pattern i) x)
        unfolding filled
        types_at x a b =
            let k : 8 * i + 63 + x ≡ length (take 64 plan) + (8 * i + (x - 1)) = omega (arith, front) in
            ap (λ (n : ℕ). get_or (take 64 plan ++ (types ++ post)) n 0) k
            ∙ get_or-append-add (take 64 plan) (types ++ post) (8 * i + (x - 1)) 0
            ∙ ap (λ (l : List ℕ). get_or (l ++ post) (8 * i + (x - 1)) 0) types_are
            ∙ ap (λ (l : List ℕ). get_or l (8 * i + (x - 1)) 0) (append_assoc (list_of (type_at pattern) (8 * (length pattern / 5))) rest post)
            ∙ list_at (type_at pattern) (8 * (length pattern / 5)) (8 * i + (x - 1)) (rest ++ post) (omega arith)
            ∙ type_stands pattern i x a b

      filled_plan : RowsFilled pattern filled
      filled_plan = record { variables = variables_at; types = types_at }

  pub plan_filled : (plan₀ plan types : List ℕ) → 576 ≤ length plan₀ → length plan ≡ length plan₀ → plan ≡ list_of (variables_at_lem pattern) (length pattern / 5) ++ drop (length pattern / 5) plan₀
      → length types ≡ length (take (length plan - 64) (drop 64 plan)) → types ≡ list_of (type_at pattern) (8 * (length pattern / 5)) ++ drop (8 * (length pattern / 5)) (take (length plan - 64) (drop 64 plan))
      → RowsFilled pattern (take 64 plan ++ (types ++ drop (length plan - 64) (drop 64 plan)))
  unfolding rest post filled
  plan_filled = filled_plan

-- ------------------------------------------------------------------ words behind the table
module _ (p words : List ℕ) (room : length p ≡ plan_words) (long : length words ≡ length (take (length p - 328) (drop 328 p))) where
  head_long : length (take 328 p) ≡ 328
  head_long = length-take-le 328 p (omega arith)

  words_long : length words ≡ 3008
  words_long = long ∙ length-take-le (length p - 328) (drop 328 p) (omega (arith, length-drop 328 p)) ∙ omega arith

  pub behind_long : length (take 328 p ++ (words ++ drop (length p - 328) (drop 328 p))) ≡ length p
  behind_long = omega (arith, head_long, words_long, length-append (take 328 p) (words ++ drop (length p - 328) (drop 328 p)), length-append words (drop (length p - 328) (drop 328 p)), length-drop (length p - 328) (drop 328 p), length-drop 328 p)

  pub behind_low : (j : ℕ) → j < 328 → get_or (take 328 p ++ (words ++ drop (length p - 328) (drop 328 p))) j 0 ≡ get_or p j 0
  behind_low j h = get_or-append (take 328 p) (words ++ drop (length p - 328) (drop 328 p)) 0 j (omega (arith, head_long)) ∙ get_or-take 328 p j 0 h

  pub behind_word : (j : ℕ) → j < 576 → get_or (take 328 p ++ (words ++ drop (length p - 328) (drop 328 p))) (328 + j) 0 ≡ get_or words j 0
  behind_word j h =
      let z : 328 + j ≡ length (take 328 p) + j = omega (arith, head_long) in
      ap (λ (n : ℕ). get_or (take 328 p ++ (words ++ drop (length p - 328) (drop 328 p))) n 0) z
      ∙ get_or-append-add (take 328 p) (words ++ drop (length p - 328) (drop 328 p)) j 0
      ∙ get_or-append words (drop (length p - 328) (drop 328 p)) 0 j (omega (arith, words_long))
