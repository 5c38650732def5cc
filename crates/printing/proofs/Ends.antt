-- The ways out of the functions that find where a path, a value and a record end. Assumes nothing.
use Rattle.std.proofs.Common.{◌≡◌, ℕ, zero, suc, ◌+◌, ◌-◌, ◌*◌, ◌<◌, ◌≤◌, min, Bool, true, false, eqb, leb, List, ◌∷◌, length, get_or, drop, sym, refl, ap, ◌∙◌, arith, get_or-drop, drop-drop, eq-eqb, ne_eqb, leb-false, leb-true}
use Rattle.meaning.specs.Basics.{eight}
use Rattle.meaning.specs.Record.{group_size_lem, path_size_lem, record_size_lem, slot_size_lem, value_size_lem, variables_size_lem}
use Rattle.meaning.specs.Table.{ty_words}
use Rattle.meaning.specs.Typing.{Edge, Found, Group, Maybe, Node, Ty, absent, clash, typed}
use Rattle.printing.specs.Sizes.{Forward, GroupEnd, PathEnd, RecordEnd, SlotAt, TypeAt, TypesAt, ValueEnd, VariableEnd}

-- two stretches after one another: past the end nothing counts any more
pub forward_on : (g : List ℕ → ℕ) (w : List ℕ) (a s e : ℕ) → Forward w a s e → min (e + g (drop e w)) (length w) ≡ min (a + s + g (drop (a + s) w)) (length w)
forward_on g w a s e h = go (leb (a + s) (length w)) refl
  where
    go : (b : Bool) → leb (a + s) (length w) ≡ b → min (e + g (drop e w)) (length w) ≡ min (a + s + g (drop (a + s) w)) (length w)
    go true q =
        let l : a + s ≤ length w = leb-true (a + s) (length w) q in
        let i : e ≡ a + s = omega (arith, h, l) in
        ap (λ (n : ℕ). min (n + g (drop n w)) (length w)) i
    go false q =
        let l : length w < a + s = leb-false (a + s) (length w) q in
        omega (arith, h, l)

-- the first word of the rest
pub head_is : (w : List ℕ) (a : ℕ) → get_or (drop a w) 0 0 ≡ get_or w a 0
head_is w a = let e : a + 0 ≡ a = omega arith in get_or-drop a w 0 0 ∙ ap (λ (i : ℕ). get_or w i 0) e

pub path_end_law : (w : List ℕ) (at x r : ℕ) → x ≡ get_or w at 0 → r ≡ min (at + (2 * x + 2)) (length w) → PathEnd w at r
unfolding path_size_lem
path_end_law w at x r e h =
    let q : get_or (drop at w) 0 0 ≡ x = head_is w at ∙ sym e in
    record { is = omega (arith, h, q); within = (omega (arith, h), omega (arith, h)) }

-- ------------------------------------------------------------------ a value
-- with no number left there is no type
pub end_none : (left : ℕ) (t : List ℕ) (k : ℕ) (w : List ℕ) (at r : ℕ) → left ≡ 0 → Forward w at 1 r → ValueEnd left t k w at r
unfolding ty_words
end_none left t k w at r z h = record { is = is; within = (omega (arith, h), omega (arith, h)) }
  where
    is : (τ : Ty) → TypeAt τ t k → length (ty_words τ) ≤ left → Forward w at (value_size_lem τ (drop at w)) r
    is Node a l = absurd (omega (arith, l, z))
    is Edge a l = absurd (omega (arith, l, z))
    is (Maybe τ) a l = absurd (omega (arith, l, z))
    is (Group τ) a l = absurd (omega (arith, l, z))

pub end_nothing : (left : ℕ) (t : List ℕ) (k : ℕ) (w : List ℕ) (at x y r : ℕ) → x ≡ get_or t k 0 → x ≡ 3 → y ≡ get_or w at 0 → y ≡ 65535 → Forward w at 1 r → ValueEnd left t k w at r
unfolding TypeAt value_size_lem
end_nothing left t k w at x y r e x3 f n h = record { is = is; within = (omega (arith, h), omega (arith, h)) }
  where
    is : (τ : Ty) → TypeAt τ t k → length (ty_words τ) ≤ left → Forward w at (value_size_lem τ (drop at w)) r
    is Node a l = absurd (omega (arith, a, e, x3))
    is Edge a l = absurd (omega (arith, a, e, x3))
    is (Maybe τ) a l =
        let q : eqb (get_or (drop at w) 0 0) 65535 ≡ true = eq-eqb (get_or (drop at w) 0 0) 65535 (head_is w at ∙ (sym f ∙ n)) in
        rw q h
    is (Group τ) a l = absurd (omega (arith, a.0, e, x3))

pub end_maybe : (left : ℕ) (t : List ℕ) (k : ℕ) (w : List ℕ) (at x y r : ℕ) → x ≡ get_or t k 0 → x ≡ 3 → y ≡ get_or w at 0 → (y ≡ 65535 → ⊥) → (left ≡ 0 → ⊥) → ValueEnd (left - 1) t (k + 1) w at r → ValueEnd left t k w at r
unfolding TypeAt value_size_lem ty_words
end_maybe left t k w at x y r e x3 f n z h = record { is = is; within = h.within }
  where
    is : (τ : Ty) → TypeAt τ t k → length (ty_words τ) ≤ left → Forward w at (value_size_lem τ (drop at w)) r
    is Node a l = absurd (omega (arith, a, e, x3))
    is Edge a l = absurd (omega (arith, a, e, x3))
    is (Maybe τ) a l =
        let q : eqb (get_or (drop at w) 0 0) 65535 ≡ false = ne_eqb (get_or (drop at w) 0 0) 65535 (λ i. n (f ∙ (sym (head_is w at) ∙ i))) in
        rw q (h.is τ a.1 (omega (arith, l)))
    is (Group τ) a l = absurd (omega (arith, a.0, e, x3))

pub end_group : (left : ℕ) (t : List ℕ) (k : ℕ) (w : List ℕ) (at x r : ℕ) → x ≡ get_or t k 0 → x ≡ 4 → (left ≡ 0 → ⊥) → GroupEnd (left - 1) t (k + 1) w at r → ValueEnd left t k w at r
unfolding TypeAt ty_words
end_group left t k w at x r e x4 z h = record { is = is; within = h.within }
  where
    is : (τ : Ty) → TypeAt τ t k → length (ty_words τ) ≤ left → Forward w at (value_size_lem τ (drop at w)) r
    is Node a l = absurd (omega (arith, a, e, x4))
    is Edge a l = absurd (omega (arith, a, e, x4))
    is (Maybe τ) a l = absurd (omega (arith, a.0, e, x4))
    is (Group τ) a l = h.is τ a.1 (omega (arith, l))

pub end_one : (left : ℕ) (t : List ℕ) (k : ℕ) (w : List ℕ) (at x r : ℕ) → x ≡ get_or t k 0 → (x ≡ 3 → ⊥) → (x ≡ 4 → ⊥) → Forward w at 1 r → ValueEnd left t k w at r
unfolding TypeAt value_size_lem
end_one left t k w at x r e x3 x4 h = record { is = is; within = (omega (arith, h), omega (arith, h)) }
  where
    is : (τ : Ty) → TypeAt τ t k → length (ty_words τ) ≤ left → Forward w at (value_size_lem τ (drop at w)) r
    is Node a l = h
    is Edge a l = h
    is (Maybe τ) a l = absurd (x3 (e ∙ a.0))
    is (Group τ) a l = absurd (x4 (e ∙ a.0))

-- ------------------------------------------------------------------ a group
-- so many factors are left, and they stand from end on
pub record Factors (left : ℕ) (t : List ℕ) (k : ℕ) (w : List ℕ) (at factors end : ℕ) : Type 0 where
  pub is : (τ : Ty) → TypeAt τ t k → length (ty_words τ) ≤ left → min (end + group_size_lem (value_size_lem τ) factors (drop end w)) (length w) ≡ min (at + value_size_lem (Group τ) (drop at w)) (length w)
  pub within : (end ≤ length w) × (min at (length w) ≤ end)

factors_start : (left : ℕ) (t : List ℕ) (k : ℕ) (w : List ℕ) (at x end : ℕ) → x ≡ get_or w at 0 → Forward w at 1 end → Factors left t k w at x end
unfolding value_size_lem
factors_start left t k w at x end e h = record { is = is; within = (omega (arith, h), omega (arith, h)) }
  where
    is : (τ : Ty) → TypeAt τ t k → length (ty_words τ) ≤ left → min (end + group_size_lem (value_size_lem τ) x (drop end w)) (length w) ≡ min (at + value_size_lem (Group τ) (drop at w)) (length w)
    is τ a l =
        let c : get_or (drop at w) 0 0 ≡ x = head_is w at ∙ sym e in
        let d : drop 1 (drop at w) ≡ drop (at + 1) w = drop-drop 1 at w in
        let on : min (end + group_size_lem (value_size_lem τ) x (drop end w)) (length w) ≡ min (at + 1 + group_size_lem (value_size_lem τ) x (drop (at + 1) w)) (length w) = forward_on (group_size_lem (value_size_lem τ) x) w at 1 end h in
        let same : group_size_lem (value_size_lem τ) (get_or (drop at w) 0 0) (drop 1 (drop at w)) ≡ group_size_lem (value_size_lem τ) x (drop (at + 1) w) = ap (λ (n : ℕ). group_size_lem (value_size_lem τ) n (drop 1 (drop at w))) c ∙ ap (group_size_lem (value_size_lem τ) x) d in
        omega (arith, on, same)

sum_of : (a b c d : ℕ) → d ≡ c → a + b + c ≡ a + (b + d)
sum_of a b c d e = omega arith

-- one factor, a path and a value
factor_on : (f : List ℕ → ℕ) (w : List ℕ) (end e₁ e₂ n : ℕ) → Forward w end (path_size_lem (drop end w)) e₁ → Forward w e₁ (f (drop e₁ w)) e₂
    → min (e₂ + group_size_lem f n (drop e₂ w)) (length w) ≡ min (end + group_size_lem f (suc n) (drop end w)) (length w)
unfolding group_size_lem
factor_on f w end e₁ e₂ n h₁ h₂ =
    let u : List ℕ = drop end w in
    let s : ℕ = path_size_lem u in
    let m : ℕ = s + f (drop s u) in
    let past : drop s u ≡ drop (end + s) w = drop-drop s end w in
    let value : f (drop s u) ≡ f (drop (end + s) w) = ap f past in
    let on₁ : min (e₁ + f (drop e₁ w)) (length w) ≡ min (end + s + f (drop (end + s) w)) (length w) = forward_on f w end s e₁ h₁ in
    let at₂ : Forward w end m e₂ = omega (arith, h₂, on₁, value) in
    let on₂ : min (e₂ + group_size_lem f n (drop e₂ w)) (length w) ≡ min (end + m + group_size_lem f n (drop (end + m) w)) (length w) = forward_on (group_size_lem f n) w end m e₂ at₂ in
    let rest : group_size_lem f n (drop m u) ≡ group_size_lem f n (drop (end + m) w) = ap (group_size_lem f n) (drop-drop m end w) in
    on₂ ∙ ap (λ (c : ℕ). min c (length w)) (sum_of end m _ _ rest)

one_more : (left : ℕ) (t : List ℕ) (k : ℕ) (w : List ℕ) (at n end e₁ e₂ : ℕ) → Factors left t k w at (suc n) end → PathEnd w end e₁ → ValueEnd left t k w e₁ e₂ → Factors left t k w at n e₂
one_more left t k w at n end e₁ e₂ i p v =
    record { is = λ τ a l. factor_on (value_size_lem τ) w end e₁ e₂ n p.is (v.is τ a l) ∙ i.is τ a l; within = (v.within.0, omega (arith, v.within.0, v.within.1, p.within.0, p.within.1, i.within.0, i.within.1)) }

-- the next of them, the factor i of so many
pub factors_more : (left : ℕ) (t : List ℕ) (k : ℕ) (w : List ℕ) (at factors i end e₁ e₂ : ℕ) → i < factors → Factors left t k w at (factors - i) end → PathEnd w end e₁ → ValueEnd left t k w e₁ e₂ → Factors left t k w at (factors - (i + 1)) e₂
factors_more left t k w at factors i end e₁ e₂ l f p v =
    let more : factors - i ≡ suc (factors - (i + 1)) = omega arith in
    one_more left t k w at (factors - (i + 1)) end e₁ e₂ (rw (← more) f) p v

factors_done : (left : ℕ) (t : List ℕ) (k : ℕ) (w : List ℕ) (at factors end : ℕ) → factors ≤ 0 → Factors left t k w at factors end → GroupEnd left t k w at end
unfolding group_size_lem
factors_done left t k w at zero end z i = record { is = λ τ a l. omega (arith, i.is τ a l, i.within.0); within = i.within }
factors_done left t k w at (suc n) end z i = absurd (omega arith)

-- all of them are left, and none
pub factors_all : (left : ℕ) (t : List ℕ) (k : ℕ) (w : List ℕ) (at x end : ℕ) → x ≡ get_or w at 0 → Forward w at 1 end → Factors left t k w at (x - 0) end
factors_all left t k w at x end e h = let i : x - 0 ≡ x = omega arith in rw i (factors_start left t k w at x end e h)

pub factors_none : (left : ℕ) (t : List ℕ) (k : ℕ) (w : List ℕ) (at factors i end : ℕ) → factors ≤ i → Factors left t k w at (factors - i) end → GroupEnd left t k w at end
factors_none left t k w at factors i end l f = factors_done left t k w at (factors - i) end (omega arith) f

pub factors_past : (left : ℕ) (t : List ℕ) (k : ℕ) (w : List ℕ) (at factors end : ℕ) → length w ≤ end → Factors left t k w at factors end → GroupEnd left t k w at end
factors_past left t k w at factors end z i = record { is = λ τ a l. omega (arith, i.is τ a l, i.within.0, z); within = i.within }

-- ------------------------------------------------------------------ a record
pub variable_none : (i : ℕ) (t w : List ℕ) (at x : ℕ) → x ≡ get_or t (6 * i) 0 → x ≡ 0 → at ≤ length w → VariableEnd i t w at at
unfolding SlotAt TypeAt slot_size_lem
variable_none i t w at x e z h = record { is = is; within = (h, omega arith) }
  where
    is : (f : Found) → SlotAt f t (6 * i) → Forward w at (slot_size_lem f (drop at w)) at
    is absent a = omega arith
    is clash a = omega arith
    is (typed Node) a = absurd (omega (arith, a.0, e, z))
    is (typed Edge) a = absurd (omega (arith, a.0, e, z))
    is (typed (Maybe τ)) a = absurd (omega (arith, a.0.0, e, z))
    is (typed (Group τ)) a = absurd (omega (arith, a.0.0, e, z))

pub variable_value : (i : ℕ) (t w : List ℕ) (at x r : ℕ) → x ≡ get_or t (6 * i) 0 → (x ≡ 0 → ⊥) → at ≤ length w → ValueEnd 6 t (6 * i) w at r → VariableEnd i t w at r
unfolding SlotAt slot_size_lem
variable_value i t w at x r e z h v = record { is = is; within = (v.within.0, omega (arith, v.within.1, h)) }
  where
    is : (f : Found) → SlotAt f t (6 * i) → Forward w at (slot_size_lem f (drop at w)) r
    is absent a = absurd (z (e ∙ a))
    is clash a = absurd (z (e ∙ a))
    is (typed τ) a = v.is τ a.0 a.1

-- the values of the variables from i on, counted from 0, stand from end on
pub record Variables (t w : List ℕ) (at i end : ℕ) : Type 0 where
  pub is : (f : ℕ → Found) → TypesAt f t → min (end + variables_size_lem f (drop i eight) (drop end w)) (length w) ≡ min (at + record_size_lem f (drop at w)) (length w)
  pub within : (end ≤ length w) × (min (at + 1) (length w) ≤ end)

pub variables_start : (t w : List ℕ) (at end : ℕ) → PathEnd w at end → Variables t w at 0 end
unfolding record_size_lem
variables_start t w at end p = record { is = is; within = p.within }
  where
    is : (f : ℕ → Found) → TypesAt f t → min (end + variables_size_lem f eight (drop end w)) (length w) ≡ min (at + record_size_lem f (drop at w)) (length w)
    is f a =
        let s : ℕ = path_size_lem (drop at w) in
        forward_on (variables_size_lem f eight) w at s end p.is ∙ ap (λ (c : ℕ). min c (length w)) (sum_of at s _ _ (ap (variables_size_lem f eight) (drop-drop s at w)))

next_variable : (i : ℕ) → i < 8 → drop i eight ≡ suc i ∷ drop (suc i) eight
unfolding eight
next_variable zero h = refl
next_variable (suc zero) h = refl
next_variable (suc (suc zero)) h = refl
next_variable (suc (suc (suc zero))) h = refl
next_variable (suc (suc (suc (suc zero)))) h = refl
next_variable (suc (suc (suc (suc (suc zero))))) h = refl
next_variable (suc (suc (suc (suc (suc (suc zero)))))) h = refl
next_variable (suc (suc (suc (suc (suc (suc (suc zero))))))) h = refl
next_variable (suc (suc (suc (suc (suc (suc (suc (suc i)))))))) h = absurd (omega arith)

variable_on : (f : ℕ → Found) (x : ℕ) (xs w : List ℕ) (end e₁ : ℕ) → Forward w end (slot_size_lem (f x) (drop end w)) e₁
    → min (e₁ + variables_size_lem f xs (drop e₁ w)) (length w) ≡ min (end + variables_size_lem f (x ∷ xs) (drop end w)) (length w)
unfolding variables_size_lem
variable_on f x xs w end e₁ h =
    let s : ℕ = slot_size_lem (f x) (drop end w) in
    forward_on (variables_size_lem f xs) w end s e₁ h ∙ ap (λ (c : ℕ). min c (length w)) (sum_of end s _ _ (ap (variables_size_lem f xs) (drop-drop s end w)))

pub variables_more : (t w : List ℕ) (at i end e₁ : ℕ) → i < 8 → Variables t w at i end → VariableEnd i t w end e₁ → Variables t w at (i + 1) e₁
variables_more t w at i end e₁ h v o = record { is = is; within = (o.within.0, omega (arith, o.within.1, v.within.1)) }
  where
    is : (f : ℕ → Found) → TypesAt f t → min (e₁ + variables_size_lem f (drop (i + 1) eight) (drop e₁ w)) (length w) ≡ min (at + record_size_lem f (drop at w)) (length w)
    is f a =
        let n : i + 1 ≡ suc i = omega arith in
        let one : min (e₁ + variables_size_lem f (drop (suc i) eight) (drop e₁ w)) (length w) ≡ min (end + variables_size_lem f (suc i ∷ drop (suc i) eight) (drop end w)) (length w) = variable_on f (suc i) (drop (suc i) eight) w end e₁ (o.is (f (suc i)) (a i h)) in
        ap (λ (j : ℕ). min (e₁ + variables_size_lem f (drop j eight) (drop e₁ w)) (length w)) n ∙ (one ∙ (ap (λ (xs : List ℕ). min (end + variables_size_lem f xs (drop end w)) (length w)) (sym (next_variable i h)) ∙ v.is f a))

none_left : (f : ℕ → Found) (i : ℕ) (u : List ℕ) → i ≡ 8 → variables_size_lem f (drop i eight) u ≡ 0
unfolding eight variables_size_lem
none_left f i u e = ap (λ (j : ℕ). variables_size_lem f (drop j eight) u) e

pub variables_done : (t w : List ℕ) (at i end : ℕ) → i ≡ 8 → Variables t w at i end → RecordEnd t w at end
variables_done t w at i end e v = record { is = λ f a. omega (arith, v.is f a, none_left f i (drop end w) e, v.within.0); within = v.within }
