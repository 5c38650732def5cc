-- Types as numbers: two types with one number are one, and the ways out of the functions on these numbers.
use mathlib.Core.Path.{◌≡◌, refl, sym, ap, ◌∙◌}
use mathlib.Core.Bool.{true}
use Prim.Native.Nat.{ℕ, ◌+◌, ◌*◌, ◌%◌, ◌≤◌}
use native.Mathlib.Omega.{arith}
use lib.Dec.{eqb}
use borrow.Author.Tests.{eq-eqb, ne_eqb}
use Rattle.meaning.specs.Pattern.{named}
use Rattle.meaning.specs.Table.{unless}
use Rattle.meaning.specs.Typing.{Ty, Ty-discrete, Node, Edge, Maybe, Group, Found, absent, clash, typed, opt, single, join_ty, union_ty, concatenation_ty, repetition_ty, named_ty}
use Rattle.typecode.specs.Codes.{ty_code, code_of, Opts, BothTyped, Unites, Joins, Repeats, Singles, Names}

-- a type's number has a last digit from 1 to 4
pub ty_some : (τ : Ty) → 1 ≤ ty_code τ
unfolding ty_code
ty_some Node = omega arith
ty_some Edge = omega arith
ty_some (Maybe τ) = omega arith
ty_some (Group τ) = omega arith

pub ty_digit : (τ : Ty) → ty_code τ % 8 ≤ 4
unfolding ty_code
ty_digit Node = omega arith
ty_digit Edge = omega arith
ty_digit (Maybe τ) = omega arith
ty_digit (Group τ) = omega arith

pub ty_same : (τ σ : Ty) → ty_code τ ≡ ty_code σ → τ ≡ σ
unfolding ty_code
ty_same Node Node e = refl
ty_same Node Edge e = absurd (omega arith)
ty_same Node (Maybe σ) e = absurd (omega arith)
ty_same Node (Group σ) e = absurd (omega (arith, ty_some σ))
ty_same Edge Node e = absurd (omega arith)
ty_same Edge Edge e = refl
ty_same Edge (Maybe σ) e = absurd (omega arith)
ty_same Edge (Group σ) e = absurd (omega arith)
ty_same (Maybe τ) Node e = absurd (omega arith)
ty_same (Maybe τ) Edge e = absurd (omega arith)
ty_same (Maybe τ) (Maybe σ) e = ap Maybe (ty_same τ σ (omega arith))
ty_same (Maybe τ) (Group σ) e = absurd (omega arith)
ty_same (Group τ) Node e = absurd (omega arith)
ty_same (Group τ) Edge e = absurd (omega arith)
ty_same (Group τ) (Maybe σ) e = absurd (omega arith)
ty_same (Group τ) (Group σ) e = ap Group (ty_same τ σ (omega arith))

-- ------------------------------------------------------------------ maybe
pub opt_same : (a : ℕ) → a % 8 ≡ 3 → Opts a a
unfolding ty_code opt
opt_same a e = record { is = go }
  where
    go : (τ : Ty) → a ≡ ty_code τ → a ≡ ty_code (opt τ)
    go Node q = absurd (omega arith)
    go Edge q = absurd (omega arith)
    go (Maybe τ) q = q
    go (Group τ) q = absurd (omega arith)

pub opt_more : (a : ℕ) → (a % 8 ≡ 3 → ⊥) → Opts a (8 * a + 3)
unfolding ty_code opt
opt_more a n = record { is = go }
  where
    go : (τ : Ty) → a ≡ ty_code τ → 8 * a + 3 ≡ ty_code (opt τ)
    go Node q = omega arith
    go Edge q = omega arith
    go (Maybe τ) q = absurd (n (omega arith))
    go (Group τ) q = omega arith

-- ------------------------------------------------------------------ both
module _ (a b : ℕ) where
  meet_same : (τ σ : Ty) (d₁ : Dec (τ ≡ σ)) (d₂ : Dec (σ ≡ Maybe τ)) (d₃ : Dec (τ ≡ Maybe σ)) → τ ≡ σ → code_of (join_ty τ σ d₁ d₂ d₃) ≡ ty_code τ
  unfolding join_ty code_of
  meet_same τ σ (yes p) d₂ d₃ e = refl
  meet_same τ σ (no p) d₂ d₃ e = absurd (p e)

  meet_right : (τ σ : Ty) (d₁ : Dec (τ ≡ σ)) (d₂ : Dec (σ ≡ Maybe τ)) (d₃ : Dec (τ ≡ Maybe σ)) → (τ ≡ σ → ⊥) → σ ≡ Maybe τ → code_of (join_ty τ σ d₁ d₂ d₃) ≡ ty_code σ
  unfolding join_ty code_of
  meet_right τ σ (yes p) d₂ d₃ n e = absurd (n p)
  meet_right τ σ (no p) (yes q) d₃ n e = refl
  meet_right τ σ (no p) (no q) d₃ n e = absurd (q e)

  meet_left : (τ σ : Ty) (d₁ : Dec (τ ≡ σ)) (d₂ : Dec (σ ≡ Maybe τ)) (d₃ : Dec (τ ≡ Maybe σ)) → (τ ≡ σ → ⊥) → (σ ≡ Maybe τ → ⊥) → τ ≡ Maybe σ → code_of (join_ty τ σ d₁ d₂ d₃) ≡ ty_code τ
  unfolding join_ty code_of
  meet_left τ σ (yes p) d₂ d₃ n m e = absurd (n p)
  meet_left τ σ (no p) (yes q) d₃ n m e = absurd (m q)
  meet_left τ σ (no p) (no q) (yes r) n m e = refl
  meet_left τ σ (no p) (no q) (no r) n m e = absurd (r e)

  meet_none : (τ σ : Ty) (d₁ : Dec (τ ≡ σ)) (d₂ : Dec (σ ≡ Maybe τ)) (d₃ : Dec (τ ≡ Maybe σ)) → (τ ≡ σ → ⊥) → (σ ≡ Maybe τ → ⊥) → (τ ≡ Maybe σ → ⊥) → code_of (join_ty τ σ d₁ d₂ d₃) ≡ 7
  unfolding join_ty code_of
  meet_none τ σ (yes p) d₂ d₃ n m o = absurd (n p)
  meet_none τ σ (no p) (yes q) d₃ n m o = absurd (m q)
  meet_none τ σ (no p) (no q) (yes r) n m o = absurd (o r)
  meet_none τ σ (no p) (no q) (no r) n m o = refl

  maybe_is : (τ σ : Ty) → ty_code σ ≡ 8 * ty_code τ + 3 → σ ≡ Maybe τ
  unfolding ty_code
  maybe_is τ σ e = ty_same σ (Maybe τ) e

  is_maybe : (τ σ : Ty) → σ ≡ Maybe τ → ty_code σ ≡ 8 * ty_code τ + 3
  unfolding ty_code
  is_maybe τ σ e = ap ty_code e

  pub both_same : a ≡ b → BothTyped a b a
  unfolding union_ty
  both_same e = record { is = λ τ σ p q. p ∙ sym (meet_same τ σ (Ty-discrete τ σ) (Ty-discrete σ (Maybe τ)) (Ty-discrete τ (Maybe σ)) (ty_same τ σ (sym p ∙ e ∙ q))) }

  pub both_right : (a ≡ b → ⊥) → b ≡ 8 * a + 3 → BothTyped a b (8 * a + 3)
  unfolding union_ty
  both_right n e = record { is = λ τ σ p q. sym e ∙ q ∙ sym (meet_right τ σ (Ty-discrete τ σ) (Ty-discrete σ (Maybe τ)) (Ty-discrete τ (Maybe σ)) (λ z. n (p ∙ ap ty_code z ∙ sym q)) (maybe_is τ σ (sym q ∙ e ∙ ap (λ (x : ℕ). 8 * x + 3) p))) }

  pub both_left : (a ≡ b → ⊥) → (b ≡ 8 * a + 3 → ⊥) → a ≡ 8 * b + 3 → BothTyped a b a
  unfolding union_ty
  both_left n m e = record { is = λ τ σ p q. p ∙ sym (meet_left τ σ (Ty-discrete τ σ) (Ty-discrete σ (Maybe τ)) (Ty-discrete τ (Maybe σ)) (λ z. n (p ∙ ap ty_code z ∙ sym q)) (λ z. m (q ∙ is_maybe τ σ z ∙ ap (λ (x : ℕ). 8 * x + 3) (sym p))) (maybe_is σ τ (sym p ∙ e ∙ ap (λ (x : ℕ). 8 * x + 3) q))) }

  pub both_none : (a ≡ b → ⊥) → (b ≡ 8 * a + 3 → ⊥) → (a ≡ 8 * b + 3 → ⊥) → BothTyped a b 7
  unfolding union_ty
  both_none n m o = record { is = λ τ σ p q. sym (meet_none τ σ (Ty-discrete τ σ) (Ty-discrete σ (Maybe τ)) (Ty-discrete τ (Maybe σ)) (λ z. n (p ∙ ap ty_code z ∙ sym q)) (λ z. m (q ∙ is_maybe τ σ z ∙ ap (λ (x : ℕ). 8 * x + 3) (sym p))) (λ z. o (p ∙ is_maybe σ τ z ∙ ap (λ (x : ℕ). 8 * x + 3) (sym q)))) }

  -- ------------------------------------------------------------------ union_type
  pub union_clash : a ≡ 7 → Unites a b 7
  unfolding code_of union_ty
  union_clash e = record { is = go }
    where
      go : (f g : Found) → a ≡ code_of f → b ≡ code_of g → 7 ≡ code_of (union_ty f g)
      go absent g p q = absurd (omega arith)
      go clash absent p q = refl
      go clash clash p q = refl
      go clash (typed σ) p q = refl
      go (typed τ) g p q = absurd (omega (arith, ty_digit τ))

  pub union_clash_b : b ≡ 7 → Unites a b 7
  unfolding code_of union_ty
  union_clash_b e = record { is = go }
    where
      go : (f g : Found) → a ≡ code_of f → b ≡ code_of g → 7 ≡ code_of (union_ty f g)
      go absent clash p q = refl
      go clash clash p q = refl
      go (typed τ) clash p q = refl
      go f absent p q = absurd (omega arith)
      go f (typed σ) p q = absurd (omega (arith, ty_digit σ))

  pub union_absent : a ≡ 0 → b ≡ 0 → Unites a b 0
  unfolding code_of union_ty
  union_absent e i = record { is = go }
    where
      go : (f g : Found) → a ≡ code_of f → b ≡ code_of g → 0 ≡ code_of (union_ty f g)
      go absent absent p q = refl
      go absent clash p q = absurd (omega arith)
      go absent (typed σ) p q = absurd (omega (arith, ty_some σ))
      go clash g p q = absurd (omega arith)
      go (typed τ) g p q = absurd (omega (arith, ty_some τ))

  pub union_right : (r : ℕ) → (b ≡ 7 → ⊥) → a ≡ 0 → (b ≡ 0 → ⊥) → Opts b r → Unites a b r
  unfolding code_of union_ty
  union_right r c e n o = record { is = go }
    where
      go : (f g : Found) → a ≡ code_of f → b ≡ code_of g → r ≡ code_of (union_ty f g)
      go absent absent p q = absurd (n q)
      go absent clash p q = absurd (c q)
      go absent (typed σ) p q = o.is σ q
      go clash g p q = absurd (omega arith)
      go (typed τ) g p q = absurd (omega (arith, ty_some τ))

  pub union_left : (r : ℕ) → (a ≡ 7 → ⊥) → (a ≡ 0 → ⊥) → b ≡ 0 → Opts a r → Unites a b r
  unfolding code_of union_ty
  union_left r c n e o = record { is = go }
    where
      go : (f g : Found) → a ≡ code_of f → b ≡ code_of g → r ≡ code_of (union_ty f g)
      go (typed τ) absent p q = o.is τ p
      go (typed τ) clash p q = absurd (omega arith)
      go (typed τ) (typed σ) p q = absurd (omega (arith, ty_some σ))
      go absent g p q = absurd (n p)
      go clash g p q = absurd (c p)

  pub union_both : (r : ℕ) → (a ≡ 7 → ⊥) → (b ≡ 7 → ⊥) → (a ≡ 0 → ⊥) → (b ≡ 0 → ⊥) → BothTyped a b r → Unites a b r
  unfolding code_of
  union_both r c d n m o = record { is = go }
    where
      go : (f g : Found) → a ≡ code_of f → b ≡ code_of g → r ≡ code_of (union_ty f g)
      go (typed τ) (typed σ) p q = o.is τ σ p q
      go (typed τ) absent p q = absurd (m q)
      go (typed τ) clash p q = absurd (d q)
      go absent g p q = absurd (n p)
      go clash g p q = absurd (c p)

  -- ------------------------------------------------------------------ joined_type
  pub join_right : a ≡ 0 → Joins a b b
  unfolding code_of concatenation_ty
  join_right e = record { is = go }
    where
      go : (f g : Found) → a ≡ code_of f → b ≡ code_of g → b ≡ code_of (concatenation_ty f g)
      go absent g p q = q
      go clash g p q = absurd (omega arith)
      go (typed τ) g p q = absurd (omega (arith, ty_some τ))

  pub join_clash : a ≡ 7 → Joins a b 7
  unfolding code_of concatenation_ty
  join_clash e = record { is = go }
    where
      go : (f g : Found) → a ≡ code_of f → b ≡ code_of g → 7 ≡ code_of (concatenation_ty f g)
      go absent g p q = absurd (omega arith)
      go clash g p q = refl
      go (typed τ) g p q = absurd (omega (arith, ty_digit τ))

  pub join_left : (a ≡ 0 → ⊥) → (a ≡ 7 → ⊥) → b ≡ 0 → Joins a b a
  unfolding code_of concatenation_ty
  join_left n c e = record { is = go }
    where
      go : (f g : Found) → a ≡ code_of f → b ≡ code_of g → a ≡ code_of (concatenation_ty f g)
      go absent g p q = absurd (n p)
      go clash g p q = absurd (c p)
      go (typed τ) absent p q = p
      go (typed τ) clash p q = absurd (omega arith)
      go (typed τ) (typed σ) p q = absurd (omega (arith, ty_some σ))

  pub join_node : a ≡ b → a ≡ 1 → Joins a b a
  unfolding code_of concatenation_ty ty_code
  join_node s e = record { is = go }
    where
      found_node : (f : Found) → code_of f ≡ 1 → f ≡ typed Node
      found_node absent e = absurd (omega arith)
      found_node clash e = absurd (omega arith)
      found_node (typed τ) e = ap typed (ty_same τ Node e)

      go : (f g : Found) → a ≡ code_of f → b ≡ code_of g → a ≡ code_of (concatenation_ty f g)
      go f g p q = rw (found_node f (sym p ∙ e), found_node g (sym q ∙ sym s ∙ e)) e

  pub join_edge : a ≡ b → a ≡ 2 → Joins a b a
  unfolding code_of concatenation_ty ty_code
  join_edge s e = record { is = go }
    where
      found_edge : (f : Found) → code_of f ≡ 2 → f ≡ typed Edge
      found_edge absent e = absurd (omega arith)
      found_edge clash e = absurd (omega arith)
      found_edge (typed τ) e = ap typed (ty_same τ Edge e)

      go : (f g : Found) → a ≡ code_of f → b ≡ code_of g → a ≡ code_of (concatenation_ty f g)
      go f g p q = rw (found_edge f (sym p ∙ e), found_edge g (sym q ∙ sym s ∙ e)) e

  -- not both Node and not both Edge
  no_join : (τ σ : Ty) → (ty_code τ ≡ 1 → ty_code σ ≡ 1 → ⊥) → (ty_code τ ≡ 2 → ty_code σ ≡ 2 → ⊥) → 7 ≡ code_of (concatenation_ty (typed τ) (typed σ))
  unfolding code_of concatenation_ty ty_code
  no_join Node Node n m = absurd (n refl refl)
  no_join Node Edge n m = refl
  no_join Node (Maybe σ) n m = refl
  no_join Node (Group σ) n m = refl
  no_join Edge Node n m = refl
  no_join Edge Edge n m = absurd (m refl refl)
  no_join Edge (Maybe σ) n m = refl
  no_join Edge (Group σ) n m = refl
  no_join (Maybe τ) σ n m = refl
  no_join (Group τ) σ n m = refl

  none_joins : (a ≡ 0 → ⊥) → (a ≡ 7 → ⊥) → (b ≡ 0 → ⊥) → (a ≡ 1 → b ≡ 1 → ⊥) → (a ≡ 2 → b ≡ 2 → ⊥) → Joins a b 7
  unfolding code_of concatenation_ty
  none_joins n c m x y = record { is = go }
    where
      go : (f g : Found) → a ≡ code_of f → b ≡ code_of g → 7 ≡ code_of (concatenation_ty f g)
      go absent g p q = absurd (n p)
      go clash g p q = absurd (c p)
      go (typed τ) absent p q = absurd (m q)
      go (typed τ) clash p q = refl
      go (typed τ) (typed σ) p q = no_join τ σ (λ u v. x (p ∙ u) (q ∙ v)) (λ u v. y (p ∙ u) (q ∙ v))

  pub join_apart : (a ≡ 0 → ⊥) → (a ≡ 7 → ⊥) → (b ≡ 0 → ⊥) → (a ≡ b → ⊥) → Joins a b 7
  join_apart n c m s = none_joins n c m (λ u v. s (u ∙ sym v)) (λ u v. s (u ∙ sym v))

  pub join_other : (a ≡ 0 → ⊥) → (a ≡ 7 → ⊥) → (b ≡ 0 → ⊥) → (a ≡ 1 → ⊥) → (a ≡ 2 → ⊥) → Joins a b 7
  join_other n c m x y = none_joins n c m (λ u v. x u) (λ u v. y u)

-- ------------------------------------------------------------------ repeated_type, is_single, named_type
module _ (a : ℕ) where
  pub repeat_absent : a ≡ 0 → Repeats a 0
  unfolding code_of repetition_ty
  repeat_absent e = record { is = go }
    where
      go : (f : Found) → a ≡ code_of f → 0 ≡ code_of (repetition_ty f)
      go absent p = refl
      go clash p = absurd (omega arith)
      go (typed τ) p = absurd (omega (arith, ty_some τ))

  pub repeat_clash : a ≡ 7 → Repeats a 7
  unfolding code_of repetition_ty
  repeat_clash e = record { is = go }
    where
      go : (f : Found) → a ≡ code_of f → 7 ≡ code_of (repetition_ty f)
      go absent p = absurd (omega arith)
      go clash p = refl
      go (typed τ) p = absurd (omega (arith, ty_digit τ))

  pub repeat_group : (a ≡ 0 → ⊥) → (a ≡ 7 → ⊥) → Repeats a (8 * a + 4)
  unfolding code_of repetition_ty ty_code
  repeat_group n c = record { is = go }
    where
      go : (f : Found) → a ≡ code_of f → 8 * a + 4 ≡ code_of (repetition_ty f)
      go absent p = absurd (n p)
      go clash p = absurd (c p)
      go (typed τ) p = ap (λ (x : ℕ). 8 * x + 4) p

  single_is : (f : Found) → (code_of f ≡ 1 → ⊥) → single f ≡ eqb (code_of f) 2
  unfolding code_of single ty_code
  single_is absent n = refl
  single_is clash n = refl
  single_is (typed Node) n = absurd (n refl)
  single_is (typed Edge) n = refl
  single_is (typed (Maybe τ)) n = sym (ne_eqb (8 * ty_code τ + 3) 2 (λ e. absurd (omega arith)))
  single_is (typed (Group τ)) n = sym (ne_eqb (8 * ty_code τ + 4) 2 (λ e. absurd (omega arith)))

  pub single_node : a ≡ 1 → Singles a true
  unfolding code_of single ty_code
  single_node e = record { is = go }
    where
      go : (f : Found) → a ≡ code_of f → true ≡ single f
      go absent p = absurd (omega arith)
      go clash p = absurd (omega arith)
      go (typed τ) p = sym (ap (λ (σ : Ty). single (typed σ)) (ty_same τ Node (sym p ∙ e)))

  pub single_edge : (a ≡ 1 → ⊥) → Singles a (eqb a 2)
  single_edge n = record { is = λ f p. ap (λ (x : ℕ). eqb x 2) p ∙ sym (single_is f (λ q. n (p ∙ q))) }

module _ (y x a : ℕ) where
  pub name_none : y ≡ 0 → Names y x a 0
  unfolding code_of named_ty named unless
  name_none e = record { is = λ τ p. rw e }

  pub name_this : (y ≡ 0 → ⊥) → y ≡ x → Names y x a a
  unfolding code_of named_ty named unless
  name_this n e = record { is = λ τ p. p ∙ sym (rw (ne_eqb y 0 n, eq-eqb y x e)) }

  pub name_other : (y ≡ 0 → ⊥) → (y ≡ x → ⊥) → Names y x a 0
  unfolding code_of named_ty named unless
  name_other n e = record { is = λ τ p. sym (rw (ne_eqb y 0 n, ne_eqb y x e)) }
