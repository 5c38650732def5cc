-- Small tools that the definitions share: lists, the lowest row with a fault.
use mathlib.Core.List.{List, [], ◌∷◌, ◌++◌, Memᴰ}
use Rattle.std.proofs.Math.Option.{Option, none, some}
use Rattle.std.specs.Prelude.{Bool, true, false, ℕ, zero, suc, ◌≤◌, leb, if◌then◌else◌}

infix 50 ◌∈◌
-- what a decision says
unfoldable pub same : {A : Type 0} → Dec A → Bool
same (yes p) = true
same (no p) = false

unfoldable pub max : ℕ → ℕ → ℕ
max a b = if leb a b then b else a

abbrev pub or_else : {A : Type 0} → Option A → Option A → Option A
or_else none b = b
or_else (some a) b = some a

-- a is a member of l
abbrev pub ◌∈◌ : {A : Type 0} → A → List A → Type 0
◌∈◌ a l = Memᴰ a l

-- P holds of every member
abbrev pub All : {A : Type 0} → (A → Type 0) → List A → Type 0
All P [] = Unit {0}
All P (x ∷ xs) = P x × All P xs

-- the results of f on every member, one after another
unfoldable pub each : {A B : Type 0} → List A → (A → List B) → List B
each [] f = []
each (x ∷ xs) f = f x ++ each xs f

unfoldable pub only : {A : Type 0} → Bool → A → List A
only true a = a ∷ []
only false a = []

unfoldable pub keep : {A : Type 0} → (A → Bool) → List A → List A
keep f [] = []
keep f (x ∷ xs) = only (f x) x ++ keep f xs

-- the numbers below n, falling; and n numbers from i on, rising
unfoldable pub below : ℕ → List ℕ
below zero = []
below (suc n) = n ∷ below n

unfoldable pub up_from : ℕ → ℕ → List ℕ
up_from zero i = []
up_from (suc n) i = i ∷ up_from n (suc i)

-- the variables of 01: 1 to 8
unfoldable pub eight : List ℕ
eight = 1 ∷ 2 ∷ 3 ∷ 4 ∷ 5 ∷ 6 ∷ 7 ∷ 8 ∷ []

-- k is at most m, where none is no bound
abbrev pub AtMost : ℕ → Option ℕ → Type 0
AtMost k none = Unit {0}
AtMost k (some m) = k ≤ m

unfoldable pub at_most : ℕ → Option ℕ → Bool
at_most k none = true
at_most k (some m) = leb k m

-- the lowest row from i on, of n rows, that a test holds of
unfoldable pub lowest : ℕ → ℕ → (ℕ → Bool) → Option ℕ
lowest zero i f = none
lowest (suc n) i f = elim (f i) [ true ↦ some i | false ↦ lowest n (suc i) f ]

-- ------------------------------------------------------------------ causes of a refusal
-- none, or the refusal's number and row
abbrev pub Cause : Type 0
Cause = Option (ℕ × ℕ)

-- causes are tried in the order written
unfoldable pub first_of : Cause → Cause → Cause
first_of none b = b
first_of (some a) b = some a

-- a cause that names no row (01: row is 0 where none is named)
unfoldable pub rowless : ℕ → Bool → Cause
rowless n true = some (n, 0)
rowless n false = none

-- a cause at a row
unfoldable pub at_row : ℕ → Option ℕ → Cause
at_row n none = none
at_row n (some i) = some (n, i)
