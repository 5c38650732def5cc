-- The computed types of a query are those that Figure 2 derives, for every query, typed or not; and a query without a clash is well typed.
use mathlib.Core.Path.{◌∙◌, ◌≡◌, ap, refl, sym}
use mathlib.Core.Bool.{Bool, false, true}
use mathlib.Core.Logic.{◌≢◌, ◌↔◌}
use Prim.Native.Nat.{ℕ}
use native.Mathlib.Omega.{arith}
use lib.Dec.{eqb}
use borrow.Author.Tests.{eq-eqb, eqb-false, eqb-true, ne_eqb}
use Rattle.meaning.proofs.Logic.{no_false, no_true, or_false_both, or_false_l, or_false_r}
use Rattle.meaning.proofs.QueryOpened.{query_opened}
use Rattle.meaning.proofs.Types.{has_iff}
use Rattle.meaning.proofs.Unused.{absent→unused, unused→absent}
use Rattle.meaning.specs.Pattern.{in_var}
use Rattle.meaning.specs.Query.{Query, QueryFound, QueryHas, QuerySingle, QueryTy, QueryTyped, Path, element, found_ty, has_in_both, has_in_first, has_in_second, has_name, has_other, has_restricted, in_query, joining, joining_ty, naming, naming_ty, one_element, path, plain, query_type_of, unnamed}
use Rattle.meaning.specs.Typing.{Edge, Found, Group, Maybe, Node, Single, Ty, absent, clash, concatenation_ty, one_edge, one_node, type_of, typed}

-- ------------------------------------------------------------------ what is found differs
is_path : QueryFound → Bool
unfolding query_opened
is_path (element f) = false
is_path path = true

found_of : QueryFound → Found
found_of (element f) = f
found_of path = absent

pub element_inj : {f g : Found} → element f ≡ element g → f ≡ g
unfolding found_of
element_inj e = ap found_of e

pub no_path : {A : Type 0} {f : Found} → element f ≡ path → A
unfolding is_path
no_path e = no_false (ap is_path e)

pub no_element : {A : Type 0} {f : Found} → path ≡ element f → A
unfolding is_path
no_element e = no_true (ap is_path e)

no_clash : {A : Type 0} {τ : Ty} → clash ≡ typed τ → A
no_clash e = let z : ◌≡◌ {A = ℕ} 0 1 = cc in absurd (omega arith)

no_clash_absent : {A : Type 0} → clash ≡ absent → A
no_clash_absent e = let z : ◌≡◌ {A = ℕ} 0 1 = cc in absurd (omega arith)

no_typed_absent : {A : Type 0} {τ : Ty} → typed τ ≡ absent → A
no_typed_absent e = let z : ◌≡◌ {A = ℕ} 0 1 = cc in absurd (omega arith)

-- ------------------------------------------------------------------ not used is absent
naming_absent : (b : Bool) (f : Found) → naming_ty b f ≡ element absent → (b ≡ false) × (f ≡ absent)
unfolding query_opened
naming_absent false f e = (refl, element_inj e)
naming_absent true absent e = no_element e
naming_absent true clash e = no_clash_absent (element_inj e)
naming_absent true (typed τ) e = no_clash_absent (element_inj e)

pub concatenation_absent : (f g : Found) → concatenation_ty f g ≡ absent → (f ≡ absent) × (g ≡ absent)
unfolding query_opened
concatenation_absent absent g e = (refl, e)
concatenation_absent clash g e = no_clash_absent e
concatenation_absent (typed τ) absent e = no_typed_absent e
concatenation_absent (typed τ) clash e = no_clash_absent e
concatenation_absent (typed Node) (typed Node) e = no_typed_absent e
concatenation_absent (typed Node) (typed Edge) e = no_clash_absent e
concatenation_absent (typed Node) (typed (Maybe σ)) e = no_clash_absent e
concatenation_absent (typed Node) (typed (Group σ)) e = no_clash_absent e
concatenation_absent (typed Edge) (typed Edge) e = no_typed_absent e
concatenation_absent (typed Edge) (typed Node) e = no_clash_absent e
concatenation_absent (typed Edge) (typed (Maybe σ)) e = no_clash_absent e
concatenation_absent (typed Edge) (typed (Group σ)) e = no_clash_absent e
concatenation_absent (typed (Maybe τ)) (typed σ) e = no_clash_absent e
concatenation_absent (typed (Group τ)) (typed σ) e = no_clash_absent e

joining_absent : (f g : QueryFound) → joining_ty f g ≡ element absent → (f ≡ element absent) × (g ≡ element absent)
unfolding query_opened
joining_absent (element f) (element g) e = let z = concatenation_absent f g (element_inj e) in (ap element z.0, ap element z.1)
joining_absent (element absent) path e = no_element e
joining_absent (element clash) path e = no_clash_absent (element_inj e)
joining_absent (element (typed τ)) path e = no_clash_absent (element_inj e)
joining_absent path (element absent) e = no_element e
joining_absent path (element clash) e = no_clash_absent (element_inj e)
joining_absent path (element (typed τ)) e = no_clash_absent (element_inj e)
joining_absent path path e = no_clash_absent (element_inj e)

pub query_absent→unused : (Q : Query) (x : ℕ) → query_type_of Q x ≡ element absent → in_query Q x ≡ false
unfolding query_opened
query_absent→unused (unnamed ρ π) x e = absent→unused π x (element_inj e)
query_absent→unused (naming y ρ π) x e = let z = naming_absent (eqb y x) (type_of π x) e in or_false_both (eqb y x) (in_var π x) z.0 (absent→unused π x z.1)
query_absent→unused (joining a b) x e = let z = joining_absent (query_type_of a x) (query_type_of b x) e in or_false_both (in_query a x) (in_query b x) (query_absent→unused a x z.0) (query_absent→unused b x z.1)

pub query_unused→absent : (Q : Query) (x : ℕ) → in_query Q x ≡ false → query_type_of Q x ≡ element absent
unfolding query_opened
query_unused→absent (unnamed ρ π) x e = ap element (unused→absent π x e)
query_unused→absent (naming y ρ π) x e = rw (or_false_l (eqb y x) (in_var π x) e, unused→absent π x (or_false_r (eqb y x) (in_var π x) e)) refl
query_unused→absent (joining a b) x e = rw (query_unused→absent a x (or_false_l (in_query a x) (in_query b x) e), query_unused→absent b x (or_false_r (in_query a x) (in_query b x) e)) refl

-- ------------------------------------------------------------------ derived is found
shared : (τ : Ty) → Single τ → concatenation_ty (typed τ) (typed τ) ≡ typed τ
unfolding query_opened
shared τ one_node = refl
shared τ one_edge = refl

in_both : {τ : QueryTy} → QuerySingle τ → joining_ty (found_ty τ) (found_ty τ) ≡ found_ty τ
unfolding query_opened
in_both (one_element {τ} s) = ap element (shared τ s)

first_only : (τ : QueryTy) → joining_ty (found_ty τ) (element absent) ≡ found_ty τ
unfolding query_opened
first_only (plain τ) = refl
first_only Path = refl

second_only : (τ : QueryTy) → joining_ty (element absent) (found_ty τ) ≡ found_ty τ
unfolding query_opened
second_only (plain τ) = refl
second_only Path = refl

pub query_has→ : {Q : Query} {x : ℕ} {τ : QueryTy} → QueryHas Q x τ → query_type_of Q x ≡ found_ty τ
unfolding query_opened
query_has→ (has_restricted {π = π} {z = z} {τ = τ} h) = ap element ((has_iff π z τ).1 h)
query_has→ (has_name {x = x} {π = π} u) = rw (eq-eqb x x refl, unused→absent π x u) refl
query_has→ (has_other {x = x} {π = π} {z = z} {τ = τ} h n) = rw (ne_eqb x z (λ e. n (sym e)), (has_iff π z τ).1 h) refl
query_has→ (has_in_both h k s) = rw (query_has→ h, query_has→ k) (in_both s)
query_has→ (has_in_first {b = b} {z = z} {τ = τ} h u) = rw (query_has→ h, query_unused→absent b z u) (first_only τ)
query_has→ (has_in_second {a = a} {z = z} {τ = τ} h u) = rw (query_unused→absent a z u, query_has→ h) (second_only τ)

-- ------------------------------------------------------------------ found is derived
-- how the types of a join come about
data Parts : QueryFound → QueryFound → QueryTy → Type 0 where
  parts_both : {f g : QueryFound} {τ : QueryTy} → f ≡ found_ty τ → g ≡ found_ty τ → QuerySingle τ → Parts f g τ
  parts_first : {f g : QueryFound} {τ : QueryTy} → f ≡ found_ty τ → g ≡ element absent → Parts f g τ
  parts_second : {f g : QueryFound} {τ : QueryTy} → f ≡ element absent → g ≡ found_ty τ → Parts f g τ

typed_inj : {a b : Ty} → typed a ≡ typed b → a ≡ b
typed_inj q = cc

single_is : (σ τ : Ty) → σ ≡ τ → Single σ → QuerySingle (plain τ)
single_is σ τ e s = rw (← e) (one_element s)

typed_parts : (f g : Found) (τ : Ty) → concatenation_ty f g ≡ typed τ → Parts (element f) (element g) (plain τ)
unfolding query_opened
typed_parts absent g τ e = parts_second refl (ap element e)
typed_parts clash g τ e = no_clash e
typed_parts (typed σ) absent τ e = parts_first (ap element e) refl
typed_parts (typed σ) clash τ e = no_clash e
typed_parts (typed Node) (typed Node) τ e = parts_both (ap element e) (ap element e) (single_is Node τ (typed_inj e) one_node)
typed_parts (typed Node) (typed Edge) τ e = no_clash e
typed_parts (typed Node) (typed (Maybe ξ)) τ e = no_clash e
typed_parts (typed Node) (typed (Group ξ)) τ e = no_clash e
typed_parts (typed Edge) (typed Edge) τ e = parts_both (ap element e) (ap element e) (single_is Edge τ (typed_inj e) one_edge)
typed_parts (typed Edge) (typed Node) τ e = no_clash e
typed_parts (typed Edge) (typed (Maybe ξ)) τ e = no_clash e
typed_parts (typed Edge) (typed (Group ξ)) τ e = no_clash e
typed_parts (typed (Maybe σ)) (typed ξ) τ e = no_clash e
typed_parts (typed (Group σ)) (typed ξ) τ e = no_clash e

join_parts : (f g : QueryFound) (τ : QueryTy) → joining_ty f g ≡ found_ty τ → Parts f g τ
unfolding query_opened
join_parts (element f) (element g) (plain τ) e = typed_parts f g τ (element_inj e)
join_parts (element f) (element g) Path e = no_path e
join_parts (element absent) path (plain τ) e = no_element e
join_parts (element absent) path Path e = parts_second refl refl
join_parts (element clash) path (plain τ) e = no_clash (element_inj e)
join_parts (element clash) path Path e = no_path e
join_parts (element (typed σ)) path (plain τ) e = no_clash (element_inj e)
join_parts (element (typed σ)) path Path e = no_path e
join_parts path (element absent) (plain τ) e = no_element e
join_parts path (element absent) Path e = parts_first refl refl
join_parts path (element clash) (plain τ) e = no_clash (element_inj e)
join_parts path (element clash) Path e = no_path e
join_parts path (element (typed σ)) (plain τ) e = no_clash (element_inj e)
join_parts path (element (typed σ)) Path e = no_path e
join_parts path path (plain τ) e = no_clash (element_inj e)
join_parts path path Path e = no_path e

pub query_has← : (Q : Query) (x : ℕ) (τ : QueryTy) → query_type_of Q x ≡ found_ty τ → QueryHas Q x τ
unfolding query_opened
query_has← (unnamed ρ π) x (plain τ) e = has_restricted ((has_iff π x τ).0 (element_inj e))
query_has← (unnamed ρ π) x Path e = no_path e
query_has← (naming y ρ π) x τ e = go (eqb y x) (type_of π x) refl refl τ e
  where
    go : (b : Bool) (f : Found) → eqb y x ≡ b → type_of π x ≡ f → (τ : QueryTy) → naming_ty b f ≡ found_ty τ → QueryHas (naming y ρ π) x τ
    go false f p q (plain τ) e = has_other ((has_iff π x τ).0 (q ∙ element_inj e)) (λ z. eqb-false y x p (sym z))
    go false f p q Path e = no_path e
    go true absent p q (plain τ) e = no_element e
    go true absent p q Path e = rw (← eqb-true y x p) (has_name (absent→unused π y (ap (type_of π) (eqb-true y x p) ∙ q)))
    go true clash p q (plain τ) e = no_clash (element_inj e)
    go true clash p q Path e = no_path e
    go true (typed σ) p q (plain τ) e = no_clash (element_inj e)
    go true (typed σ) p q Path e = no_path e
query_has← (joining a b) x τ e = go (query_has← a x τ) (query_has← b x τ) (join_parts (query_type_of a x) (query_type_of b x) τ e)
  where
    go : (query_type_of a x ≡ found_ty τ → QueryHas a x τ) → (query_type_of b x ≡ found_ty τ → QueryHas b x τ) → Parts (query_type_of a x) (query_type_of b x) τ → QueryHas (joining a b) x τ
    go f g (parts_both p q s) = has_in_both (f p) (g q) s
    go f g (parts_first p q) = has_in_first (f p) (query_absent→unused b x q)
    go f g (parts_second p q) = has_in_second (g q) (query_absent→unused a x p)

-- the computed types are the derived ones
pub query_has_iff : (Q : Query) (x : ℕ) (τ : QueryTy) → (query_type_of Q x ≡ found_ty τ) ↔ QueryHas Q x τ
query_has_iff Q x τ = (query_has← Q x τ, query_has→)

-- Definition 1 is: no clash
pub query_typed_iff : (Q : Query) → QueryTyped Q ↔ ((x : ℕ) → query_type_of Q x ≢ element clash)
unfolding query_opened
query_typed_iff Q = (to, back)
  where
    differs : (τ : QueryTy) → found_ty τ ≢ element clash
    differs (plain τ) e = no_clash (sym (element_inj e))
    differs Path e = no_element e

    to : QueryTyped Q → (x : ℕ) → query_type_of Q x ≢ element clash
    to h x e = go (in_query Q x) refl
      where
        go : (b : Bool) → in_query Q x ≡ b → ⊥
        go true u = let k = h x u in differs k.0 (sym (query_has→ k.1) ∙ e)
        go false u = no_clash_absent (element_inj (sym e ∙ query_unused→absent Q x u))

    back : ((x : ℕ) → query_type_of Q x ≢ element clash) → QueryTyped Q
    back h x u = go (query_type_of Q x) refl
      where
        go : (f : QueryFound) → query_type_of Q x ≡ f → (τ : QueryTy) × QueryHas Q x τ
        go (element absent) e = no_true (sym u ∙ query_absent→unused Q x e)
        go (element clash) e = absurd (h x e)
        go (element (typed τ)) e = (plain τ, query_has← Q x (plain τ) e)
        go path e = (Path, query_has← Q x Path e)
