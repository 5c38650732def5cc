-- 000, Section 4: Proposition 2, and the second item of Proposition 4.
use mathlib.Core.Path.{◌∙◌, ◌≡◌, sym}
use mathlib.Core.Bool.{true}
use Prim.Native.Nat.{ℕ}
use Rattle.meaning.proofs.Opened.{opened}
use Rattle.meaning.proofs.Types.{has_iff}
use Rattle.meaning.proofs.Unused.{typed_inj, typed→used}
use Rattle.meaning.specs.Pattern.{Pattern, in_var}
use Rattle.meaning.specs.Typing.{Edge, Group, Has, Maybe, Node, Ty, has_both, has_conditioned, has_edge, has_first, has_group, has_left, has_left_maybe, has_node, has_right, has_right_maybe, has_second, has_shared, opt}

-- Proposition 2, first item: only a variable that is used has a type
pub type_used : {π : Pattern} {x : ℕ} {τ : Ty} → Has π x τ → in_var π x ≡ true
type_used {π} {x} {τ} h = typed→used π x ((has_iff π x τ).1 h)

-- Proposition 2, second item: a variable has one type
pub one_type : {π : Pattern} {x : ℕ} {τ σ : Ty} → Has π x τ → Has π x σ → τ ≡ σ
one_type {π} {x} {τ} {σ} h k = typed_inj (sym ((has_iff π x τ).1 h) ∙ (has_iff π x σ).1 k)

-- Maybe of Maybe stands nowhere in the type, under Group neither
abbrev pub Flat : Ty → Type 0
Flat Node = Unit {0}
Flat Edge = Unit {0}
Flat (Maybe Node) = Unit {0}
Flat (Maybe Edge) = Unit {0}
Flat (Maybe (Maybe τ)) = ⊥
Flat (Maybe (Group τ)) = Flat τ
Flat (Group τ) = Flat τ

flat_opt : (τ : Ty) → Flat τ → Flat (opt τ)
unfolding opened
flat_opt Node f = tt
flat_opt Edge f = tt
flat_opt (Maybe τ) f = f
flat_opt (Group τ) f = f

pub flat : {π : Pattern} {x : ℕ} {τ : Ty} → Has π x τ → Flat τ
flat has_node = tt
flat has_edge = tt
flat (has_group h) = flat h
flat (has_conditioned f h) = flat h
flat (has_both h k) = flat h
flat (has_left_maybe h k) = flat k
flat (has_right_maybe h k) = flat h
flat (has_left {τ = τ} h u e) = rw e (flat_opt τ (flat h))
flat (has_right {τ = τ} h u e) = rw e (flat_opt τ (flat h))
flat (has_shared h k s) = flat h
flat (has_first h u) = flat h
flat (has_second h u) = flat h

-- Proposition 4, second item: no variable has the type Maybe of Maybe
pub no_maybe_maybe : {π : Pattern} {x : ℕ} {τ : Ty} → Has π x (Maybe (Maybe τ)) → ⊥
no_maybe_maybe h = flat h
