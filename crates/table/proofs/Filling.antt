-- Lent memory filled with the variables of each row and their types: ways, loops, and what a reader finds there.
use mathlib.Core.Path.{◌≡◌, refl, sym, ap, ◌∙◌}
use mathlib.Core.List.{List, [], ◌∷◌, ◌++◌, append_assoc}
use mathlib.Core.Bool.{Bool, true, false}
use Prim.Native.Nat.{ℕ, zero, suc, ◌+◌, ◌-◌, ◌*◌, ◌/◌, ◌%◌, ◌^◌, ◌<◌, ◌≤◌}
use native.Mathlib.Omega.{arith}
use native.Mathlib.Nat.{one-mul}
use native.Mathlib.Numerals.{add-one}
use lib.Dec.{eqb}
use lib.ListN.{length, get_or, take, drop, set, length-append, length-set}
use lib.Pow.{shl_exact}
use lib.Seq.{sets-eq, get_or_at, take_at, drop-append-add, drop-drop}
use borrow.Author.Tests.{eqb-true, eqb-false}
use Rattle.meaning.proofs.Eight.{from, from_next}
use Rattle.meaning.proofs.Lists.{each_append, up_end}
use Rattle.meaning.specs.Basics.{each, eight, up_from}
use Rattle.meaning.specs.Pattern.{Pattern, in_var}
use Rattle.meaning.specs.Typing.{Found, absent, clash, typed, type_of}
use Rattle.meaning.specs.Report.{bit}
use Rattle.meaning.proofs.Unused.{absent→unused, unused→absent}
use Rattle.typecode.specs.Codes.{code_of}
use Rattle.table.specs.Typing.{TypeIs}
use Rattle.table.specs.Variables.{One, Within, Weight, HasVariables, HasType, pattern_at_lem, mask_of, list_of, variables_at_lem, type_at}
use Rattle.typecode.proofs.Codes.{ty_some}
use Rattle.table.proofs.AcceptedTable.{plain_checked}

-- ------------------------------------------------------------------ one, row_type, weight
pub one_is : (x : ℕ) → x < 9 → One x (1 * 2 ^ x % 2 ^ 64)
one_is x h = record { is = e; small = rw e (small x h) }
  where
    e : 1 * 2 ^ x % 2 ^ 64 ≡ 2 ^ x
    e = shl_exact 1 x 64 (omega arith) (omega arith) ∙ one-mul (2 ^ x)

    small : (x : ℕ) → x < 9 → 2 ^ x ≤ 256
    small zero h = omega arith
    small (suc zero) h = omega arith
    small (suc (suc zero)) h = omega arith
    small (suc (suc (suc zero))) h = omega arith
    small (suc (suc (suc (suc zero)))) h = omega arith
    small (suc (suc (suc (suc (suc zero))))) h = omega arith
    small (suc (suc (suc (suc (suc (suc zero)))))) h = omega arith
    small (suc (suc (suc (suc (suc (suc (suc zero))))))) h = omega arith
    small (suc (suc (suc (suc (suc (suc (suc (suc zero)))))))) h = omega arith
    small (suc (suc (suc (suc (suc (suc (suc (suc (suc n))))))))) h = absurd (omega arith)

pub type_found : (pattern : List ℕ) (row x a : ℕ) → Within pattern row → TypeIs pattern row x a → HasType pattern row x a
type_found pattern row x a w h = record { is = h.is ∙ ap code_of (plain_checked pattern w.accepted row w.room x); small = h.small }

absent_is : (f : Found) → code_of f ≡ 0 → f ≡ absent
unfolding code_of
absent_is absent e = refl
absent_is clash e = absurd (omega arith)
absent_is (typed τ) e = absurd (omega (arith, ty_some τ))

module _ (pattern : List ℕ) (row x a : ℕ) (h : HasType pattern row x a) where
  pub weight_none : a ≡ 0 → Weight pattern row x 0
  unfolding bit
  weight_none e =
      let n : in_var (pattern_at_lem pattern row) x ≡ false = absent→unused (pattern_at_lem pattern row) x (absent_is (type_of (pattern_at_lem pattern row) x) (sym h.is ∙ e)) in
      record { is = rw n (omega arith); small = omega arith }

  pub weight_one : (r : ℕ) → (a ≡ 0 → ⊥) → One x r → Weight pattern row x r
  unfolding bit code_of
  weight_one r n o = record { is = o.is ∙ go (in_var (pattern_at_lem pattern row) x) refl; small = o.small }
    where
      go : (b : Bool) → in_var (pattern_at_lem pattern row) x ≡ b → 2 ^ x ≡ bit (in_var (pattern_at_lem pattern row) x) * 2 ^ x
      go true e = rw e (sym (one-mul (2 ^ x)))
      go false e = absurd (n (h.is ∙ ap code_of (unused→absent (pattern_at_lem pattern row) x e)))

-- ------------------------------------------------------------------ row_variables
pub record Gathering (pattern : List ℕ) (row mask x : ℕ) : Type 0 where
  pub low : 1 ≤ x
  pub high : x ≤ 9
  pub small : mask ≤ 256 * x
  pub is : variables_at_lem pattern row ≡ mask + mask_of (pattern_at_lem pattern row) (from x)

pub gathering_none : (pattern : List ℕ) (row : ℕ) → Gathering pattern row 0 1
unfolding variables_at_lem eight
gathering_none pattern row = record { low = omega arith; high = omega arith; small = omega arith; is = omega arith }

pub gathering_more : (pattern : List ℕ) (row mask x w : ℕ) → Gathering pattern row mask x → x < 9 → Weight pattern row x w → Gathering pattern row (mask + w) (x + 1)
unfolding mask_of
gathering_more pattern row mask x w g l h =
    let e : mask_of (pattern_at_lem pattern row) (from x) ≡ bit (in_var (pattern_at_lem pattern row) x) * 2 ^ x + mask_of (pattern_at_lem pattern row) (from (x + 1)) = ap (mask_of (pattern_at_lem pattern row)) (from_next x g.low l) in
    record { low = omega arith; high = omega arith; small = omega (arith, g.small, h.small); is = omega (arith, g.is, e, h.is) }

pub gathering_all : (pattern : List ℕ) (row mask x : ℕ) → Gathering pattern row mask x → 9 ≤ x → HasVariables pattern row mask
unfolding mask_of
gathering_all pattern row mask x g l =
    let e : x ≡ 9 = omega (arith, g.high) in
    let z : mask_of (pattern_at_lem pattern row) (from x) ≡ 0 = ap (λ (y : ℕ). mask_of (pattern_at_lem pattern row) (from y)) e in
    record { is = omega (arith, g.is, z) }

-- ------------------------------------------------------------------ a list filled from its front
list_more : (f : ℕ → ℕ) (n : ℕ) → list_of f (n + 1) ≡ list_of f n ++ (f n ∷ [])
unfolding list_of each
list_more f n =
    let e : 0 + n ≡ n = omega arith in
    ap (λ (m : ℕ). each (up_from m 0) (λ i. f i ∷ [])) (add-one n) ∙ ap (λ (l : List ℕ). each l (λ i. f i ∷ [])) (up_end n 0) ∙ each_append (λ i. f i ∷ []) (up_from n 0) ((0 + n) ∷ []) ∙ rw e

list_long : (f : ℕ → ℕ) (n : ℕ) → length (list_of f n) ≡ n
unfolding list_of each up_from
list_long f zero = refl
list_long f (suc n) = ap length (ap (list_of f) (sym (add-one n)) ∙ list_more f n) ∙ length-append (list_of f n) (f n ∷ []) ∙ omega (arith, list_long f n)

-- the first i numbers of the table of f are written
pub record Tabled (f : ℕ → ℕ) (n : ℕ) (d₀ d : List ℕ) (i : ℕ) : Type 0 where
  pub upto : i ≤ n
  pub room : n ≤ length d₀
  pub same_long : length d ≡ length d₀
  pub is : d ≡ list_of f i ++ drop i d₀

pub tabled_none : (f : ℕ → ℕ) (n : ℕ) (d : List ℕ) → n ≤ length d → Tabled f n d d 0
unfolding list_of each up_from
tabled_none f n d h = record { upto = omega arith; room = h; same_long = refl; is = refl }

tabled_more : (f : ℕ → ℕ) (n : ℕ) (d₀ d : List ℕ) (i v : ℕ) → Tabled f n d₀ d i → i < n → v ≡ f i → Tabled f n d₀ (set d i v) (i + 1)
tabled_more f n d₀ d i v k l e =
    let m = list_long f i in
    let front : take i d ≡ list_of f i = ap (take i) k.is ∙ take_at (list_of f i) (drop i d₀) i m in
    let back : drop (i + 1) d ≡ drop (i + 1) d₀ = ap (drop (i + 1)) k.is ∙ ap (λ (j : ℕ). drop (j + 1) (list_of f i ++ drop i d₀)) (sym m) ∙ drop-append-add (list_of f i) (drop i d₀) 1 ∙ drop-drop 1 i d₀ in
    record { upto = omega arith; room = k.room; same_long = length-set d i v ∙ k.same_long; is = sets-eq (v ∷ []) d i (omega (arith, k.room, k.same_long)) ∙ (rw (front, back, e, list_more f i) refl) }

pub tabled_all : (f : ℕ → ℕ) (n : ℕ) (d₀ d : List ℕ) (i : ℕ) → Tabled f n d₀ d i → n ≤ i → d ≡ list_of f n ++ drop n d₀
tabled_all f n d₀ d i k l = let e : i ≡ n = omega (arith, k.upto) in k.is ∙ ap (λ (j : ℕ). list_of f j ++ drop j d₀) e

pub variables_more : (pattern : List ℕ) (n : ℕ) (d₀ d : List ℕ) (i v : ℕ) → Tabled (variables_at_lem pattern) n d₀ d i → i < n → HasVariables pattern i v → Tabled (variables_at_lem pattern) n d₀ (set d i v) (i + 1)
variables_more pattern n d₀ d i v k l h = tabled_more (variables_at_lem pattern) n d₀ d i v k l h.is

pub types_more : (pattern : List ℕ) (n : ℕ) (d₀ d : List ℕ) (i v : ℕ) → Tabled (type_at pattern) n d₀ d i → i < n → HasType pattern (i / 8) (i % 8 + 1) v → Tabled (type_at pattern) n d₀ (set d i v) (i + 1)
unfolding type_at
types_more pattern n d₀ d i v k l h = tabled_more (type_at pattern) n d₀ d i v k l h.is

-- ------------------------------------------------------------------ what a reader finds
pub list_at : (f : ℕ → ℕ) (n i : ℕ) (d : List ℕ) → i < n → get_or (list_of f n ++ d) i 0 ≡ f i
list_at f zero i d h = absurd (omega arith)
list_at f (suc n) i d h = go (eqb i n) refl (λ k. list_at f n i ((f n ∷ []) ++ d) k)
  where
    step : list_of f (suc n) ++ d ≡ list_of f n ++ ((f n ∷ []) ++ d)
    step = ap (λ (l : List ℕ). l ++ d) (ap (list_of f) (sym (add-one n)) ∙ list_more f n) ∙ append_assoc (list_of f n) (f n ∷ []) d

    go : (b : Bool) → eqb i n ≡ b → (i < n → get_or (list_of f n ++ ((f n ∷ []) ++ d)) i 0 ≡ f i) → get_or (list_of f (suc n) ++ d) i 0 ≡ f i
    go true e ih = ap (λ (l : List ℕ). get_or l i 0) step ∙ rw (eqb-true i n e) (get_or_at (list_of f n) (f n) d 0 n (list_long f n))
    go false e ih = let z : i ≡ n → ⊥ = eqb-false i n e in ap (λ (l : List ℕ). get_or l i 0) step ∙ ih (omega arith)

-- the type of variable x of row i stands at 8 * i + x - 1
pub type_stands : (pattern : List ℕ) (i x : ℕ) → 1 ≤ x → x < 9 → type_at pattern (8 * i + (x - 1)) ≡ code_of (type_of (pattern_at_lem pattern i) x)
unfolding type_at
type_stands pattern i x l h =
    let a : (8 * i + (x - 1)) / 8 ≡ i = omega arith in
    let b : (8 * i + (x - 1)) % 8 + 1 ≡ x = omega arith in
    rw (a, b)

bit_small : (b : Bool) → bit b ≤ 1
unfolding bit
bit_small true = omega arith
bit_small false = omega arith

bit_told : (b : Bool) → eqb (bit b) 1 ≡ b
unfolding bit
bit_told true = refl
bit_told false = refl

-- bit x of a row's variables is 1 if the row uses x
pub variable_bit : (π : Pattern) (x : ℕ) → 1 ≤ x → x < 9 → eqb (mask_of π eight / 2 ^ x % 2) 1 ≡ in_var π x
unfolding mask_of eight
variable_bit π x l h = ap (λ (n : ℕ). eqb n 1) (digit x l h) ∙ bit_told (in_var π x)
  where
    digit : (x : ℕ) → 1 ≤ x → x < 9 → mask_of π eight / 2 ^ x % 2 ≡ bit (in_var π x)
    digit zero l h = absurd (omega arith)
    digit (suc zero) l h = omega (arith, bit_small (in_var π 1), bit_small (in_var π 2), bit_small (in_var π 3), bit_small (in_var π 4), bit_small (in_var π 5), bit_small (in_var π 6), bit_small (in_var π 7), bit_small (in_var π 8))
    digit (suc (suc zero)) l h = omega (arith, bit_small (in_var π 1), bit_small (in_var π 2), bit_small (in_var π 3), bit_small (in_var π 4), bit_small (in_var π 5), bit_small (in_var π 6), bit_small (in_var π 7), bit_small (in_var π 8))
    digit (suc (suc (suc zero))) l h = omega (arith, bit_small (in_var π 1), bit_small (in_var π 2), bit_small (in_var π 3), bit_small (in_var π 4), bit_small (in_var π 5), bit_small (in_var π 6), bit_small (in_var π 7), bit_small (in_var π 8))
    digit (suc (suc (suc (suc zero)))) l h = omega (arith, bit_small (in_var π 1), bit_small (in_var π 2), bit_small (in_var π 3), bit_small (in_var π 4), bit_small (in_var π 5), bit_small (in_var π 6), bit_small (in_var π 7), bit_small (in_var π 8))
    digit (suc (suc (suc (suc (suc zero))))) l h = omega (arith, bit_small (in_var π 1), bit_small (in_var π 2), bit_small (in_var π 3), bit_small (in_var π 4), bit_small (in_var π 5), bit_small (in_var π 6), bit_small (in_var π 7), bit_small (in_var π 8))
    digit (suc (suc (suc (suc (suc (suc zero)))))) l h = omega (arith, bit_small (in_var π 1), bit_small (in_var π 2), bit_small (in_var π 3), bit_small (in_var π 4), bit_small (in_var π 5), bit_small (in_var π 6), bit_small (in_var π 7), bit_small (in_var π 8))
    digit (suc (suc (suc (suc (suc (suc (suc zero))))))) l h = omega (arith, bit_small (in_var π 1), bit_small (in_var π 2), bit_small (in_var π 3), bit_small (in_var π 4), bit_small (in_var π 5), bit_small (in_var π 6), bit_small (in_var π 7), bit_small (in_var π 8))
    digit (suc (suc (suc (suc (suc (suc (suc (suc zero)))))))) l h = omega (arith, bit_small (in_var π 1), bit_small (in_var π 2), bit_small (in_var π 3), bit_small (in_var π 4), bit_small (in_var π 5), bit_small (in_var π 6), bit_small (in_var π 7), bit_small (in_var π 8))
    digit (suc (suc (suc (suc (suc (suc (suc (suc (suc n))))))))) l h = absurd (omega arith)
