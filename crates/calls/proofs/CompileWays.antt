-- The ways through compiling: a part's plan, the plans of all parts, their names and types.
use mathlib.Core.Path.{◌∙◌, ◌≡◌, ap, refl, sym}
use mathlib.Core.Bool.{Bool, false, true}
use mathlib.Core.List.{List, [], ◌++◌, ◌∷◌}
use mathlib.Core.Option.{none}
use Prim.Native.Nat.{◌*◌, ◌+◌, ◌-◌, ◌<◌, ◌≤◌, suc, ℕ}
use native.Mathlib.Omega.{arith}
use lib.Dec.{eqb}
use lib.ListN.{drop, get_or, length, length-append, length-drop, length-set, set, take}
use lib.Seq.{get_or-set_other, get_or-set_same, length-take-le}
use borrow.Author.Tests.{eqb-false, eqb-true, ne_eqb}
use Rattle.bounds.specs.Lengths.{LengthsFilled}
use Rattle.calls.specs.Called.{Completed, NamesOf, PlanOf, PlansOf, TypesOf, is_alone_lem}
use Rattle.compiled.specs.Copies.{PartFilled}
use Rattle.compiled.specs.Derived.{plan_words}
use Rattle.compiled.specs.Parts.{restrictor_in, table_in}
use Rattle.joins.specs.Projected.{found_in}
use Rattle.meaning.proofs.Causes.{first_none}
use Rattle.meaning.specs.Answer.{restrictor_of}
use Rattle.meaning.specs.QueryWords.{Part, parts_fault, parts_of}
use Rattle.meaning.specs.Table.{pattern_fault, pattern_of}
use Rattle.parts.proofs.PieceLaws.{piece_before, piece_here, piece_kept}
use Rattle.parts.specs.Pieces.{piece}
use Rattle.parts.specs.Plans.{PartPlan}
use Rattle.plan.specs.Fitted.{PlanFilled}
use Rattle.plan.specs.Ready.{Ready}
use Rattle.query.proofs.PartLaws.{from_part}
use Rattle.query.proofs.TypeWays.{later_none}
use Rattle.query.specs.Fine.{Accepted}
use Rattle.query.specs.Parts.{PartIs, PartsCounted, part_in}
use Rattle.query.specs.declared.layout.Part.{Part as PartRead}
use Rattle.reach.specs.Onward.{OnwardFilled}
use Rattle.typecode.specs.Codes.{code_of}

-- ------------------------------------------------------------------ complete
module _ {graph plan₀ plan₁ : List ℕ} (l : LengthsFilled plan₀ plan₁) where
  pub lengths_ready : Ready graph plan₀ → Ready graph plan₁
  lengths_ready r = l.ready graph r

  pub completed : {plan : List ℕ} → OnwardFilled graph plan₁ plan → Completed graph plan₀ plan
  completed o = record { ready = o.ready; table_is = o.table_is ∙ l.table_is; restrictor_is = o.restrictor_is ∙ l.restrictor_is }

-- ------------------------------------------------------------------ compile_part
module _ (query : List ℕ) (i : ℕ) (p : PartRead) (looked : PartIs query i p) where
  pub part_accepted : Accepted query → i < length (parts_of query) → pattern_fault (take (p.to - p.from) (drop p.from query)) ≡ none
  unfolding parts_fault
  part_accepted ok h = (first_none (pattern_fault (take (p.to - p.from) (drop p.from query))) (parts_fault (drop (suc i) (parts_of query))) (ap parts_fault (sym (from_part query i p looked h)) ∙ later_none (parts_of query) i ok.fine.accepted)).0

  part_plan : (graph plan₀ plan : List ℕ) → PartFilled (take (p.to - p.from) (drop p.from query)) p.restrictor plan₀ → Ready graph plan → table_in plan ≡ table_in plan₀ → restrictor_in plan ≡ restrictor_in plan₀ → PlanOf query i graph plan
  part_plan graph plan₀ plan f r t u = record { is = one }
    where
      one : (l₀ : List Part) (a : Part) (l₁ : List Part) → parts_of query ≡ l₀ ++ a ∷ l₁ → length l₀ ≡ i → PartPlan graph plan a
      one l₀ a l₁ e n =
          let same : a ≡ part_in query p = looked.is l₀ a l₁ e n in
          record { ready = r; pattern_is = ap pattern_of (t ∙ f.is) ∙ ap (λ (b : Part). pattern_of b.words) (sym same); restrictor_is = u ∙ f.restrictor_is ∙ ap (λ (b : Part). restrictor_of b.restrictor) (sym same) }

  module _ (graph plan₀ plan₁ : List ℕ) (f : PartFilled (take (p.to - p.from) (drop p.from query)) p.restrictor plan₀) (g : PlanFilled graph plan₀ plan₁) where
    pub part_compiled : PlanOf query i graph plan₁
    part_compiled = part_plan graph plan₀ plan₁ f g.ready g.table_is g.restrictor_is

    -- for a listing
    pub part_completed : (plan : List ℕ) → Completed graph plan₁ plan → PlanOf query i graph plan
    part_completed plan h = part_plan graph plan₀ plan f h.ready (h.table_is ∙ g.table_is) (h.restrictor_is ∙ g.restrictor_is)

-- ------------------------------------------------------------------ compile_parts
-- the plans of the first i of n parts
pub record PlansBelow (query graph plans : List ℕ) (n i : ℕ) : Type 0 where
  pub counted : PartsCounted query n
  pub within : i ≤ n
  pub long : length plans ≡ 4 * plan_words
  pub part : (l₀ : List Part) (a : Part) (l₁ : List Part) → parts_of query ≡ l₀ ++ a ∷ l₁ → length l₀ < i → PartPlan graph (piece plan_words (length l₀) plans) a

pub plans_none : (query graph plans : List ℕ) (n : ℕ) → PartsCounted query n → length plans ≡ 4 * plan_words → PlansBelow query graph plans n 0
plans_none query graph plans n c l = record { counted = c; within = omega arith; long = l; part = λ l₀ a l₁ e h. absurd (omega arith) }

written_long : (a e : ℕ) (w y : List ℕ) → a ≤ e → e ≤ length w → length y ≡ length (take (e - a) (drop a w)) → length (take a w ++ (y ++ drop (e - a) (drop a w))) ≡ length w
written_long a e w y h k l =
    let m : length y ≡ e - a = l ∙ length-take-le (e - a) (drop a w) (omega (arith, length-drop a w)) in
    omega (arith, m, length-take-le a w (omega arith), length-append (take a w) (y ++ drop (e - a) (drop a w)), length-append y (drop (e - a) (drop a w)), length-drop (e - a) (drop a w), length-drop a w)

module _ (query graph plans : List ℕ) (n i : ℕ) (b : PlansBelow query graph plans n i) where
  pub part_among : i < n → i < length (parts_of query)
  part_among h = omega (arith, b.counted.is)

  module _ (h : i < n) (y : List ℕ) (p : PlanOf query i graph y) (l : length y ≡ length (take (i * plan_words + plan_words - i * plan_words) (drop (i * plan_words) plans))) where
    abbrev with_one : List ℕ
    with_one = take (i * plan_words) plans ++ (y ++ drop (i * plan_words + plan_words - i * plan_words) (drop (i * plan_words) plans))

    room : i * plan_words + plan_words ≤ length plans
    room = omega (arith, b.long, b.counted.few)

    one_more : (l₀ : List Part) (a : Part) (l₁ : List Part) → parts_of query ≡ l₀ ++ a ∷ l₁ → length l₀ < i + 1 → PartPlan graph (piece plan_words (length l₀) with_one) a
    one_more l₀ a l₁ e k = go (eqb (length l₀) i) refl
      where
        go : (t : Bool) → eqb (length l₀) i ≡ t → PartPlan graph (piece plan_words (length l₀) with_one) a
        go true q =
            let z : length l₀ ≡ i = eqb-true (length l₀) i q in
            let s : piece plan_words (length l₀) with_one ≡ y = ap (λ (j : ℕ). piece plan_words j with_one) z ∙ piece_here plan_words i (i * plan_words) (i * plan_words + plan_words) plans y refl refl room l in
            rw s (p.is l₀ a l₁ e z)
        go false q =
            let d : length l₀ ≡ i → ⊥ = eqb-false (length l₀) i q in
            let z : length l₀ < i = omega arith in
            let s : piece plan_words (length l₀) with_one ≡ piece plan_words (length l₀) plans = piece_kept plan_words i (length l₀) with_one plans z (piece_before plan_words i (i * plan_words) (i * plan_words + plan_words) plans y refl refl room l (i * plan_words) (omega arith)) in
            rw s (b.part l₀ a l₁ e z)

    pub plans_more : PlansBelow query graph (take (i * plan_words) plans ++ (y ++ drop (i * plan_words + plan_words - i * plan_words) (drop (i * plan_words) plans))) n (i + 1)
    plans_more = record { counted = b.counted; within = omega arith; long = written_long (i * plan_words) (i * plan_words + plan_words) plans y (omega arith) room l ∙ b.long; part = one_more }

  pub plans_all : n ≤ i → PlansOf query graph plans
  plans_all h = record { part = λ l₀ a l₁ e. b.part l₀ a l₁ e (omega (arith, b.counted.is, ap length e, length-append l₀ (a ∷ l₁))) }

-- ------------------------------------------------------------------ names_of
-- the names of the first i of n parts
pub record NamesBelow (query names : List ℕ) (n i : ℕ) : Type 0 where
  pub counted : PartsCounted query n
  pub within : i ≤ n
  pub long : length names ≡ 4
  pub is : (l₀ : List Part) (a : Part) (l₁ : List Part) → parts_of query ≡ l₀ ++ a ∷ l₁ → length l₀ < i → get_or names (length l₀) 0 ≡ a.name

pub names_none : (query names : List ℕ) (n : ℕ) → PartsCounted query n → length names ≡ 4 → NamesBelow query names n 0
names_none query names n c l = record { counted = c; within = omega arith; long = l; is = λ l₀ a l₁ e h. absurd (omega arith) }

module _ (query names : List ℕ) (n i : ℕ) (b : NamesBelow query names n i) where
  pub name_among : i < n → i < length (parts_of query)
  name_among h = omega (arith, b.counted.is)

  pub names_more : (p : PartRead) → i < n → PartIs query i p → NamesBelow query (set names i p.name) n (i + 1)
  names_more p h looked = record { counted = b.counted; within = omega arith; long = length-set names i p.name ∙ b.long; is = one }
    where
      one : (l₀ : List Part) (a : Part) (l₁ : List Part) → parts_of query ≡ l₀ ++ a ∷ l₁ → length l₀ < i + 1 → get_or (set names i p.name) (length l₀) 0 ≡ a.name
      one l₀ a l₁ e k = go (eqb (length l₀) i) refl
        where
          go : (t : Bool) → eqb (length l₀) i ≡ t → get_or (set names i p.name) (length l₀) 0 ≡ a.name
          go true q =
              let z : length l₀ ≡ i = eqb-true (length l₀) i q in
              ap (λ (j : ℕ). get_or (set names i p.name) j 0) z ∙ get_or-set_same names i p.name 0 (omega (arith, b.long, b.counted.few)) ∙ ap (λ (c : Part). c.name) (sym (looked.is l₀ a l₁ e z))
          go false q =
              let d = eqb-false (length l₀) i q in
              get_or-set_other names i (length l₀) p.name 0 d ∙ b.is l₀ a l₁ e (omega arith)

  pub names_all : n ≤ i → NamesOf query names
  names_all h = record { is = λ l₀ a l₁ e. b.is l₀ a l₁ e (omega (arith, b.counted.is, ap length e, length-append l₀ (a ∷ l₁))) }

-- ------------------------------------------------------------------ types_of
-- the types of the variables below x
pub record TypesBelow (query types : List ℕ) (x : ℕ) : Type 0 where
  pub low : 1 ≤ x
  pub high : x ≤ 9
  pub long : length types ≡ 9
  pub is : (y : ℕ) → 1 ≤ y → y < x → get_or types y 0 ≡ code_of (found_in (parts_of query) y)

pub types_none : (query types : List ℕ) → length types ≡ 9 → TypesBelow query types 1
types_none query types l = record { low = omega arith; high = omega arith; long = l; is = λ y a b. absurd (omega arith) }

module _ (query types : List ℕ) (x : ℕ) (b : TypesBelow query types x) where
  pub types_more : (code : ℕ) → x < 9 → code ≡ code_of (found_in (parts_of query) x) → TypesBelow query (set types x code) (x + 1)
  types_more code h e = record { low = omega arith; high = omega arith; long = length-set types x code ∙ b.long; is = one }
    where
      one : (y : ℕ) → 1 ≤ y → y < x + 1 → get_or (set types x code) y 0 ≡ code_of (found_in (parts_of query) y)
      one y a k = go (eqb y x) refl
        where
          go : (t : Bool) → eqb y x ≡ t → get_or (set types x code) y 0 ≡ code_of (found_in (parts_of query) y)
          go true q =
              let z : y ≡ x = eqb-true y x q in
              ap (λ (j : ℕ). get_or (set types x code) j 0) z ∙ get_or-set_same types x code 0 (omega (arith, b.long)) ∙ e ∙ ap (λ (j : ℕ). code_of (found_in (parts_of query) j)) (sym z)
          go false q = let d = eqb-false y x q in get_or-set_other types x y code 0 d ∙ b.is y a (omega arith)

  pub types_all : 9 ≤ x → TypesOf query types
  types_all h = record { is = λ y a k. b.is y a (omega arith) }

-- ------------------------------------------------------------------ is_alone
module _ (query : List ℕ) (n : ℕ) (c : PartsCounted query n) where
  pub alone_not : (n ≡ 1 → ⊥) → eqb n 1 ≡ is_alone_lem (parts_of query)
  unfolding is_alone_lem
  alone_not h = ne_eqb n 1 h ∙ go (parts_of query) c.is
    where
      go : (l : List Part) → n ≡ length l → false ≡ is_alone_lem l
      go [] e = refl
      go (a ∷ []) e = absurd (h e)
      go (a ∷ b ∷ l) e = refl

  pub alone_by_name : n ≡ 1 → (p : PartRead) → PartIs query 0 p → eqb p.name 0 ≡ is_alone_lem (parts_of query)
  unfolding is_alone_lem
  alone_by_name one p looked = sym (ap is_alone_lem (from_part query 0 p looked (omega (arith, c.is)) ∙ ap (λ (l : List Part). part_in query p ∷ l) (none_left (parts_of query) (omega (arith, c.is)))))
    where
      none_left : (l : List Part) → length l ≤ 1 → drop 1 l ≡ []
      none_left [] h = refl
      none_left (a ∷ []) h = refl
      none_left (a ∷ b ∷ l) h = absurd (omega arith)
