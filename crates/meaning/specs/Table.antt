-- 01, 'The pattern table' and 'Check a pattern': rows, refusals 11 to 16, the pattern of an accepted table, its types in words.
use Rattle.std.specs.Prelude.{List, [], ◌∷◌, ◌++◌, Bool, true, false, not, ◌&&◌, ◌||◌, ℕ, zero, suc, ◌-◌, ◌%◌, eqb, ltb, leb, length, get_or, take, if◌then◌else◌}
use Rattle.std.proofs.Math.Option.{Option, none, some}
use Rattle.meaning.specs.Basics.{each, eight, lowest, Cause, first_of, rowless, at_row}
use Rattle.meaning.specs.Graph.{Direction, forward, backward, undirected}
use Rattle.meaning.specs.Pattern.{Condition, equals_constant, equals_property, and, or, neg, Pattern, node, edge, union, concatenation, conditioned, repetition, edgeless, nesting}
use Rattle.meaning.specs.Typing.{Ty, Node, Edge, Maybe, Group, Found, absent, clash, typed, type_of}

-- 01: a row of five numbers; what each means depends on the kind
pub record Row : Type 0 where
  pub kind : ℕ
  pub p : ℕ
  pub q : ℕ
  pub r : ℕ
  pub s : ℕ

unfoldable pub rows_of : List ℕ → List Row
rows_of [] = []
rows_of (k ∷ []) = []
rows_of (k ∷ p ∷ []) = []
rows_of (k ∷ p ∷ q ∷ []) = []
rows_of (k ∷ p ∷ q ∷ r ∷ []) = []
rows_of (k ∷ p ∷ q ∷ r ∷ s ∷ l) = record { kind = k; p = p; q = q; r = r; s = s } ∷ rows_of l

unfoldable pub no_row : Row
no_row = record { kind = 0; p = 0; q = 0; r = 0; s = 0 }

-- ------------------------------------------------------------------ a row by its kind
pub data Form : Type 0 where
  is_node_lem : ℕ → ℕ → Form
  is_edge : Direction → ℕ → ℕ → Form
  is_union is_concatenation is_conditioned : ℕ → ℕ → Form
  is_repetition : ℕ → ℕ → ℕ → Form
  is_constant : ℕ → ℕ → ℕ → Form
  is_property : ℕ → ℕ → ℕ → ℕ → Form
  is_and is_or : ℕ → ℕ → Form
  is_not : ℕ → Form
  is_bad : Form

-- the form, where the numbers not listed for its kind are 0
unfoldable pub if_zero : Bool → Form → Form
if_zero true f = f
if_zero false f = is_bad

unfoldable pub form : Row → Form
form l =
    let rs = eqb l.r 0 && eqb l.s 0 in
    if eqb l.kind 1 then if_zero rs (is_node_lem l.p l.q) else
    if eqb l.kind 2 then if_zero rs (is_edge forward l.p l.q) else
    if eqb l.kind 3 then if_zero rs (is_edge backward l.p l.q) else
    if eqb l.kind 4 then if_zero rs (is_edge undirected l.p l.q) else
    if eqb l.kind 5 then if_zero rs (is_union l.p l.q) else
    if eqb l.kind 6 then if_zero rs (is_concatenation l.p l.q) else
    if eqb l.kind 7 then if_zero rs (is_conditioned l.p l.q) else
    if eqb l.kind 8 then if_zero (eqb l.q 0) (is_repetition l.p l.r l.s) else
    if eqb l.kind 16 then if_zero (eqb l.s 0) (is_constant l.p l.q l.r) else
    if eqb l.kind 17 then is_property l.p l.q l.r l.s else
    if eqb l.kind 18 then if_zero rs (is_and l.p l.q) else
    if eqb l.kind 19 then if_zero rs (is_or l.p l.q) else
    if eqb l.kind 20 then if_zero (eqb l.q 0 && rs) (is_not l.p) else is_bad

unfoldable pub pattern_form : Form → Bool
pattern_form (is_node_lem x l) = true
pattern_form (is_edge d x l) = true
pattern_form (is_union p q) = true
pattern_form (is_concatenation p q) = true
pattern_form (is_conditioned p q) = true
pattern_form (is_repetition p r s) = true
pattern_form (is_constant x k c) = false
pattern_form (is_property x k y l) = false
pattern_form (is_and p q) = false
pattern_form (is_or p q) = false
pattern_form (is_not p) = false
pattern_form is_bad = false

unfoldable pub condition_form : Form → Bool
condition_form (is_node_lem x l) = false
condition_form (is_edge d x l) = false
condition_form (is_union p q) = false
condition_form (is_concatenation p q) = false
condition_form (is_conditioned p q) = false
condition_form (is_repetition p r s) = false
condition_form (is_constant x k c) = true
condition_form (is_property x k y l) = true
condition_form (is_and p q) = true
condition_form (is_or p q) = true
condition_form (is_not p) = true
condition_form is_bad = false

-- the rows that a row names, a row named twice standing twice
unfoldable pub names_of : Form → List ℕ
names_of (is_node_lem x l) = []
names_of (is_edge d x l) = []
names_of (is_union p q) = p ∷ q ∷ []
names_of (is_concatenation p q) = p ∷ q ∷ []
names_of (is_conditioned p q) = p ∷ q ∷ []
names_of (is_repetition p r s) = p ∷ []
names_of (is_constant x k c) = []
names_of (is_property x k y l) = []
names_of (is_and p q) = p ∷ q ∷ []
names_of (is_or p q) = p ∷ q ∷ []
names_of (is_not p) = p ∷ []
names_of is_bad = []

unfoldable pub times : ℕ → List ℕ → ℕ
times x [] = 0
times x (y ∷ l) = if eqb x y then suc (times x l) else times x l

-- ------------------------------------------------------------------ what a row comes to, from what the rows below it come to
pub data Item : Type 0 where
  pattern_item : Pattern → Item
  condition_item_lem : Condition → Item
  no_item : Item

-- the stand-ins are for rows that 12 refuses
unfoldable pub as_pattern : Item → Pattern
as_pattern (pattern_item π) = π
as_pattern (condition_item_lem θ) = node none none
as_pattern no_item = node none none

unfoldable pub as_condition : Item → Condition
as_condition (pattern_item π) = equals_constant 1 0 0
as_condition (condition_item_lem θ) = θ
as_condition no_item = equals_constant 1 0 0

-- 0 is no variable and no label; 65535 is no bound
unfoldable pub unless : ℕ → ℕ → Option ℕ
unless absence x = if eqb x absence then none else some x

unfoldable pub make : (ℕ → Item) → Form → Item
make f (is_node_lem x l) = pattern_item (node (unless 0 x) (unless 0 l))
make f (is_edge d x l) = pattern_item (edge d (unless 0 x) (unless 0 l))
make f (is_union p q) = pattern_item (union (as_pattern (f p)) (as_pattern (f q)))
make f (is_concatenation p q) = pattern_item (concatenation (as_pattern (f p)) (as_pattern (f q)))
make f (is_conditioned p q) = pattern_item (conditioned (as_pattern (f p)) (as_condition (f q)))
make f (is_repetition p r s) = pattern_item (repetition (as_pattern (f p)) r (unless 65535 s))
make f (is_constant x k c) = condition_item_lem (equals_constant x k c)
make f (is_property x k y l) = condition_item_lem (equals_property x k y l)
make f (is_and p q) = condition_item_lem (and (as_condition (f p)) (as_condition (f q)))
make f (is_or p q) = condition_item_lem (or (as_condition (f p)) (as_condition (f q)))
make f (is_not p) = condition_item_lem (neg (as_condition (f p)))
make f is_bad = no_item

-- a repetition whose body has the property
unfoldable pub repeats : (Pattern → Bool) → Pattern → Bool
repeats f (node x l) = false
repeats f (edge d x l) = false
repeats f (union a b) = false
repeats f (concatenation a b) = false
repeats f (conditioned a θ) = false
repeats f (repetition a n m) = f a

unfoldable pub on_pattern : (Pattern → Bool) → Item → Bool
on_pattern f (pattern_item π) = f π
on_pattern f (condition_item_lem θ) = false
on_pattern f no_item = false

unfoldable pub two_deep : Pattern → Bool
two_deep a = leb 2 (nesting a)

unfoldable pub is_clash_lem : Found → Bool
is_clash_lem absent = false
is_clash_lem clash = true
is_clash_lem (typed τ) = false

unfoldable pub any_of : List ℕ → (ℕ → Bool) → Bool
any_of [] f = false
any_of (x ∷ l) f = f x || any_of l f

-- some variable is used and has no type
unfoldable pub untyped : Pattern → Bool
untyped π = any_of eight (λ x. is_clash_lem (type_of π x))

unfoldable pub is_variable_lem : ℕ → Bool
is_variable_lem x = leb 1 x && leb x 8

-- ------------------------------------------------------------------ a table's rows, from 0; the last is the whole pattern
module _ (t : List Row) where
  unfoldable pub form_at : ℕ → Form
  form_at i = form (get_or t i no_row)

  -- what the rows below i come to
  unfoldable pub lower : ℕ → List Item
  lower zero = []
  lower (suc i) = lower i ++ (make (λ j. get_or (lower i) j no_item) (form_at i) ∷ [])

  unfoldable pub item_at : ℕ → Item
  item_at i = make (λ j. get_or (lower i) j no_item) (form_at i)

  unfoldable pub pattern_row_lem : ℕ → ℕ → Bool
  pattern_row_lem i j = ltb j i && pattern_form (form_at j)

  unfoldable pub condition_row : ℕ → ℕ → Bool
  condition_row i j = ltb j i && condition_form (form_at j)

  -- row i's numbers are what its kind allows
  unfoldable pub fine : ℕ → Form → Bool
  fine i (is_node_lem x l) = leb x 8
  fine i (is_edge d x l) = leb x 8
  fine i (is_union p q) = pattern_row_lem i p && pattern_row_lem i q
  fine i (is_concatenation p q) = pattern_row_lem i p && pattern_row_lem i q
  fine i (is_conditioned p q) = pattern_row_lem i p && condition_row i q
  fine i (is_repetition p r s) = pattern_row_lem i p && (leb r 65534 && leb r s)
  fine i (is_constant x k c) = is_variable_lem x
  fine i (is_property x k y l) = is_variable_lem x && is_variable_lem y
  fine i (is_and p q) = condition_row i p && condition_row i q
  fine i (is_or p q) = condition_row i p && condition_row i q
  fine i (is_not p) = condition_row i p
  fine i is_bad = false

  unfoldable pub fault12 : ℕ → Bool
  fault12 i = not (fine i (form_at i))

  -- the last row is a pattern; every other row is named at one place in all
  unfoldable pub fault13 : ℕ → Bool
  fault13 i = if eqb (suc i) (length t) then not (pattern_form (form_at i)) else not (eqb (times i (each t (λ l. names_of (form l)))) 1)

  unfoldable pub fault14 : ℕ → Bool
  fault14 i = on_pattern (repeats edgeless) (item_at i)

  unfoldable pub fault15 : ℕ → Bool
  fault15 i = on_pattern (repeats two_deep) (item_at i)

  unfoldable pub fault16 : ℕ → Bool
  fault16 i = on_pattern untyped (item_at i)

  -- each cause over the whole table before the next, at its lowest row
  unfoldable pub row_cause : ℕ → (ℕ → Bool) → Cause
  row_cause n f = at_row n (lowest (length t) 0 f)

  unfoldable pub table_fault : Cause
  table_fault = first_of (row_cause 12 fault12) (first_of (row_cause 13 fault13) (first_of (row_cause 14 fault14) (first_of (row_cause 15 fault15) (row_cause 16 fault16))))

  unfoldable pub table_pattern : Pattern
  table_pattern = as_pattern (item_at (length t - 1))

-- 11: not whole rows, none, or over 64
unfoldable pub bad_length : List ℕ → Bool
bad_length pattern = not (eqb (length pattern % 5) 0) || (eqb (length pattern) 0 || ltb 320 (length pattern))

unfoldable pub pattern_fault : List ℕ → Cause
pattern_fault pattern = first_of (rowless 11 (bad_length pattern)) (table_fault (rows_of pattern))

unfoldable pub pattern_of : List ℕ → Pattern
pattern_of pattern = table_pattern (rows_of pattern)

-- ------------------------------------------------------------------ a type as six numbers, eight variables as 48 words
unfoldable pub ty_words : Ty → List ℕ
ty_words Node = 1 ∷ []
ty_words Edge = 2 ∷ []
ty_words (Maybe τ) = 3 ∷ ty_words τ
ty_words (Group τ) = 4 ∷ ty_words τ

unfoldable pub found_words : Found → List ℕ
found_words absent = []
found_words clash = []
found_words (typed τ) = ty_words τ

unfoldable pub padded : List ℕ → List ℕ
padded l = take 6 (l ++ (0 ∷ 0 ∷ 0 ∷ 0 ∷ 0 ∷ 0 ∷ []))

unfoldable pub type_words : Pattern → List ℕ
type_words π = each eight (λ x. padded (found_words (type_of π x)))
