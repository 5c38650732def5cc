-- The ways through the sums of sets.
use mathlib.Core.Path.{◌∙◌, ◌≡◌, ap, refl, sym}
use mathlib.Core.List.{List, [], ◌∷◌}
use mathlib.Core.Bool.{Bool, ◌||◌, false, or-true, true}
use Prim.Native.Nat.{◌%◌, ◌*◌, ◌+◌, ◌-◌, ◌/◌, ◌<◌, ◌^◌, ◌≤◌, suc, zero, ℕ}
use native.Mathlib.Nat.{mul-div_cancel}
use native.Mathlib.Omega.{arith}
use lib.Bits.{bit_or}
use lib.ListN.{get_or}
use lib.Pow.{pow_pos}
use borrow.Author.Tests.{le-ltb, lt-ltb}
use Rattle.bits.proofs.Bits.{bit_mod, bit_or_law, bit_shr}
use Rattle.bits.proofs.Cases.{by_eqb, by_ltb}
use Rattle.bits.proofs.Laws.{at, insert_kept, insert_self, set_below}
use Rattle.bits.proofs.Words.{each_word, set_at}
use Rattle.bits.specs.Sets.{Least, below, bit, insert, minus, only, set_of, unite}
use Rattle.meaning.proofs.Logic.{no_true}
use Rattle.bounds.specs.Sums.{AllFrom, Carried, Closed, Multiples, Raised, Repeated, SumOf, Sums}

pub or_left : (a b : Bool) → a ≡ true → (a || b) ≡ true
or_left a b e = ap (λ (x : Bool). x || b) e

pub or_right : (a b : Bool) → b ≡ true → (a || b) ≡ true
or_right a b e = ap (λ (x : Bool). a || x) e ∙ or-true a

-- ------------------------------------------------------------------ carried, raised
pub carried_is : (word below b : ℕ) → b < 64 → Carried word below b (bit_or (word * 2 ^ b % 2 ^ 64) (below / 2 ^ (63 - b) / 2 ^ 1))
carried_is word below b h = record { own = own; carry = carry }
  where
    own : (t : ℕ) → t + b < 64 → bit word t ≡ true → bit (bit_or (word * 2 ^ b % 2 ^ 64) (below / 2 ^ (63 - b) / 2 ^ 1)) (t + b) ≡ true
    own t l e =
        let c : t + b ≡ b + t = omega arith in
        bit_or_law (word * 2 ^ b % 2 ^ 64) (below / 2 ^ (63 - b) / 2 ^ 1) (t + b)
        ∙ or_left (bit (word * 2 ^ b % 2 ^ 64) (t + b)) (bit (below / 2 ^ (63 - b) / 2 ^ 1) (t + b))
        (bit_mod (word * 2 ^ b) 64 (t + b) l ∙ (ap (bit (word * 2 ^ b)) c ∙ (sym (bit_shr (word * 2 ^ b) b t) ∙ (ap (λ (x : ℕ). bit x t) (mul-div_cancel word (pow_pos b)) ∙ e))))

    carry : (t : ℕ) → t < 64 → 64 ≤ t + b → bit below t ≡ true → bit (bit_or (word * 2 ^ b % 2 ^ 64) (below / 2 ^ (63 - b) / 2 ^ 1)) (t + b - 64) ≡ true
    carry t l m e =
        let c : (63 - b) + (1 + (t + b - 64)) ≡ t = omega arith in
        bit_or_law (word * 2 ^ b % 2 ^ 64) (below / 2 ^ (63 - b) / 2 ^ 1) (t + b - 64)
        ∙ or_right (bit (word * 2 ^ b % 2 ^ 64) (t + b - 64)) (bit (below / 2 ^ (63 - b) / 2 ^ 1) (t + b - 64))
        (bit_shr (below / 2 ^ (63 - b)) 1 (t + b - 64) ∙ (bit_shr below (63 - b) (1 + (t + b - 64)) ∙ (ap (bit below) c ∙ e)))

-- the words of a set behind four empty ones
abbrev pub padded : List ℕ → List ℕ
padded w = 0 ∷ 0 ∷ 0 ∷ 0 ∷ get_or w 0 0 ∷ get_or w 1 0 ∷ get_or w 2 0 ∷ get_or w 3 0 ∷ []

pad_at : (w : List ℕ) (i k : ℕ) → i < 4 → k ≡ 4 + i → get_or (padded w) k 0 ≡ get_or w i 0
pad_at w i k h e = ap (λ (x : ℕ). get_or (padded w) x 0) e ∙ each_word (λ n. get_or (padded w) (4 + n) 0 ≡ get_or w n 0) refl refl refl refl i h

-- word j of the result is that of j - n / 64, with what the one below it carries
raised_by : (w r : List ℕ) (n : ℕ) → n < 256 → ((j : ℕ) → j < 4 → Carried (get_or (padded w) (4 - n / 64 + j) 0) (get_or (padded w) (4 - n / 64 + j - 1) 0) (n % 64) (get_or r j 0)) → Raised (set_of w) n (set_of r)
raised_by w r n h c = record { is = is }
  where
    is : (k : ℕ) → set_of w k ≡ true → k + n < 256 → set_of r (k + n) ≡ true
    is k e l =
        let a : k / 64 * 64 + k % 64 ≡ k = omega arith in
        let f : bit (get_or w (k / 64) 0) (k % 64) ≡ true = sym (set_at w (k / 64) (k % 64) (omega arith) (omega arith)) ∙ (ap (set_of w) a ∙ e) in
        by_ltb (k % 64 + n % 64) 64
        (λ m.
        let q : (k / 64 + n / 64) * 64 + (k % 64 + n % 64) ≡ k + n = omega arith in
        let b : get_or (padded w) (4 - n / 64 + (k / 64 + n / 64)) 0 ≡ get_or w (k / 64) 0 = pad_at w (k / 64) (4 - n / 64 + (k / 64 + n / 64)) (omega arith) (omega arith) in
        ap (set_of r) (sym q) ∙ (set_at r (k / 64 + n / 64) (k % 64 + n % 64) (omega arith) m ∙ (c (k / 64 + n / 64) (omega arith)).own (k % 64) m (ap (λ (x : ℕ). bit x (k % 64)) b ∙ f)))
        (λ m.
        let q : (k / 64 + n / 64 + 1) * 64 + (k % 64 + n % 64 - 64) ≡ k + n = omega arith in
        let b : get_or (padded w) (4 - n / 64 + (k / 64 + n / 64 + 1) - 1) 0 ≡ get_or w (k / 64) 0 = pad_at w (k / 64) (4 - n / 64 + (k / 64 + n / 64 + 1) - 1) (omega arith) (omega arith) in
        ap (set_of r) (sym q) ∙ (set_at r (k / 64 + n / 64 + 1) (k % 64 + n % 64 - 64) (omega arith) (omega arith) ∙ (c (k / 64 + n / 64 + 1) (omega arith)).carry (k % 64) (omega arith) m (ap (λ (x : ℕ). bit x (k % 64)) b ∙ f)))

pub raised_is : (w : List ℕ) (n a b c d : ℕ) → n < 256 → Carried (get_or (padded w) (4 - n / 64) 0) (get_or (padded w) (4 - n / 64 - 1) 0) (n % 64) a
    → Carried (get_or (padded w) (4 - n / 64 + 1) 0) (get_or (padded w) (4 - n / 64) 0) (n % 64) b
    → Carried (get_or (padded w) (4 - n / 64 + 2) 0) (get_or (padded w) (4 - n / 64 + 1) 0) (n % 64) c
    → Carried (get_or (padded w) (4 - n / 64 + 3) 0) (get_or (padded w) (4 - n / 64 + 2) 0) (n % 64) d → Raised (set_of w) n (set_of (a ∷ b ∷ c ∷ d ∷ []))
raised_is w n a b c d h i j k l = raised_by w (a ∷ b ∷ c ∷ d ∷ []) n h
    (each_word (λ m. Carried (get_or (padded w) (4 - n / 64 + m) 0) (get_or (padded w) (4 - n / 64 + m - 1) 0) (n % 64) (get_or (a ∷ b ∷ c ∷ d ∷ []) m 0))
    (let e : 4 - n / 64 + 0 ≡ 4 - n / 64 = omega arith in rw e i)
    (let e : 4 - n / 64 + 1 - 1 ≡ 4 - n / 64 = omega arith in rw e j)
    (let e : 4 - n / 64 + 2 - 1 ≡ 4 - n / 64 + 1 = omega arith in rw e k)
    (let e : 4 - n / 64 + 3 - 1 ≡ 4 - n / 64 + 2 = omega arith in rw e l))

-- ------------------------------------------------------------------ all_from
pub all_from_is : (n : ℕ) (R : ℕ → Bool) {S T : ℕ → Bool} → S ≡ below 256 256 → T ≡ below 256 n → R ≡ minus S T → AllFrom n R
all_from_is n R {S} {T} e f g = record {
  is = λ k h l.
      let a : S k ≡ true = at e k ∙ rw (lt-ltb k 256 l) refl in
      let b : T k ≡ false = at f k ∙ rw (lt-ltb k 256 l, le-ltb k n h) refl in
      at g k ∙ rw (a, b) refl;
}

-- ------------------------------------------------------------------ sums
-- those of the members below k
pub record Summed (S T R : ℕ → Bool) (k : ℕ) : Type 0 where
  pub is : (i j : ℕ) → S i ≡ true → i < k → T j ≡ true → i + j < 256 → R (i + j) ≡ true

pub summed_none : (S T R : ℕ → Bool) (k : ℕ) → Least S 256 0 k → Summed S T R k
summed_none S T R k l = record { is = λ i j e h f m. no_true (sym e ∙ l.before i (omega arith) h) }

pub summed_more : {S T R : ℕ → Bool} {k : ℕ} {X Y : ℕ → Bool} {m : ℕ} → Summed S T R k → Raised T k X → Y ≡ unite R X → Least S 256 (k + 1) m → Summed S T Y m
summed_more {S} {T} {R} {k} {X} {Y} {m} s r u l = record {
  is = λ i j e h f n. by_ltb i k
      (λ p. at u (i + j) ∙ or_left (R (i + j)) (X (i + j)) (s.is i j e p f n))
      (λ p. by_eqb i k
      (λ q. let c : i + j ≡ j + k = omega arith in at u (i + j) ∙ or_right (R (i + j)) (X (i + j)) (ap X c ∙ r.is j f (omega arith)))
      (λ q. no_true (sym e ∙ l.before i (omega arith) h)));
}

pub summed_all : (w : List ℕ) {T R : ℕ → Bool} {k : ℕ} → Summed (set_of w) T R k → 256 ≤ k → Sums (set_of w) T R
summed_all w s h = record { is = λ i j e f n. s.is i j e (omega (arith, set_below w i e)) f n }

pub sums_turned : {S T R : ℕ → Bool} → Sums T S R → Sums S T R
sums_turned {S} {T} {R} s = record { is = λ i j e f n. let c : i + j ≡ j + i = omega arith in ap R c ∙ s.is j i f e (omega arith) }

-- a number is not below the least
least_low : {S : ℕ → Bool} {n : ℕ} (i : ℕ) → Least S 256 0 n → S i ≡ true → n ≤ i
least_low {S} {n} i l e = by_ltb i n (λ h. no_true (sym e ∙ l.before i (omega arith) h)) (λ h. h)

pub sums_tail : {S T R : ℕ → Bool} {a b : ℕ} → Least S 256 0 a → Least T 256 0 b → AllFrom (a + b) R → Sums S T R
sums_tail l m r = record { is = λ i j e f n. r.is (i + j) (omega (arith, least_low i l e, least_low j m f)) n }

-- ------------------------------------------------------------------ sums of several members
-- the first so many, and the rest
parted : (S : ℕ → Bool) (a b x : ℕ) → SumOf S (a + b) x → (y : ℕ) × (z : ℕ) × SumOf S a y × SumOf S b z × (x ≡ y + z)
unfolding SumOf
parted S zero b x s = let e : 0 + b ≡ b = omega arith in (0, x, refl, rw e at s, omega arith)
parted S (suc a) b x s =
    let c : suc a + b ≡ suc (a + b) = omega arith in
    let (i, j, e, t, f) = go (rw c at s) in
    let (y, z, u, v, g) = parted S a b j t in
    (i + y, z, (i, y, e, u, refl), v, omega arith)
  where
    go : SumOf S (suc (a + b)) x → (i : ℕ) × (j : ℕ) × (S i ≡ true) × SumOf S (a + b) j × (x ≡ i + j)
    go s = s

pub multiples_none : (S R : ℕ → Bool) {n : ℕ} → n ≡ 0 → R ≡ only 256 0 → Multiples S n R
unfolding SumOf
multiples_none S R e f = rw e (record { is = λ x s h. at f x ∙ rw s refl })

pub multiples_one : (S : ℕ → Bool) {n : ℕ} → n ≡ 1 → Multiples S n S
unfolding SumOf
multiples_one S e = rw e (record { is = λ x s h. let f : x ≡ s.0 = omega (arith, s.3, s.4) in ap S f ∙ s.2 })

multiples_sum : {S : ℕ → Bool} {a b : ℕ} {X Y R : ℕ → Bool} → Multiples S a X → Multiples S b Y → Sums X Y R → Multiples S (a + b) R
multiples_sum {S} {a} {b} {X} {Y} {R} m n s = record {
  is = λ x t h.
      let (y, z, u, v, f) = parted S a b x t in
      ap R f ∙ s.is y z (m.is y u (omega arith)) (n.is z v (omega arith)) (omega arith);
}

pub multiples_even : {S : ℕ → Bool} (n : ℕ) {H R : ℕ → Bool} → n % 2 ≡ 0 → Multiples S (n / 2) H → Sums H H R → Multiples S n R
multiples_even n e m s = let c : n / 2 + n / 2 ≡ n = omega arith in rw c at (multiples_sum m m s)

pub multiples_odd : {S : ℕ → Bool} (n : ℕ) {H E R : ℕ → Bool} → (n % 2 ≡ 0 → ⊥) → Multiples S (n / 2) H → Sums H H E → Sums E S R → Multiples S n R
multiples_odd {S} n e m s r =
    let d : n % 2 < 2 = omega arith in
    let c : n / 2 + n / 2 + 1 ≡ n = omega arith in
    rw c at (multiples_sum (multiples_sum m m s) (multiples_one S refl) r)

-- ------------------------------------------------------------------ closed
-- S and the sums of a number below k and a step, where that number is such a sum itself
pub record Closing (S T R : ℕ → Bool) (k : ℕ) : Type 0 where
  pub first : (s : ℕ) → S s ≡ true → R s ≡ true
  pub more : (s m z t : ℕ) → S s ≡ true → SumOf T m z → s + z < k → T t ≡ true → s + z + t < 256 → R (s + z + t) ≡ true

pub closing_none : (S T : ℕ → Bool) (k : ℕ) → Least S 256 0 k → Closing S T S k
closing_none S T k l = record { first = λ s e. e; more = λ s m z t e a h f n. no_true (sym e ∙ l.before s (omega arith) (omega arith)) }

module _ {S T R : ℕ → Bool} {k : ℕ} {X Y : ℕ → Bool} {n : ℕ} (c : Closing S T R k) (r : Raised T k X) (u : Y ≡ unite R X) (l : Least Y 256 (k + 1) n) where
  -- a step from a number up to k
  step : (s m z t : ℕ) → S s ≡ true → SumOf T m z → s + z ≤ k → T t ≡ true → s + z + t < 256 → Y (s + z + t) ≡ true
  step s m z t e a h f o = at u (s + z + t) ∙ by_ltb (s + z) k
      (λ p. or_left (R (s + z + t)) (X (s + z + t)) (c.more s m z t e a p f o))
      (λ p. let q : s + z + t ≡ t + k = omega arith in or_right (R (s + z + t)) (X (s + z + t)) (ap X q ∙ r.is t f (omega arith)))

  -- such a sum below n is there
  there : (s m z : ℕ) → S s ≡ true → SumOf T m z → s + z < n → Y (s + z) ≡ true
  unfolding SumOf
  there s zero z e a h = let q : s + z ≡ s = omega arith in ap Y q ∙ (at u s ∙ or_left (R s) (X s) (c.first s e))
  there s (suc m) z e (i, j, f, b, g) h =
      let q : s + z ≡ s + j + i = omega arith in
      let o : s + j + i < 256 = omega (arith, l.within) in
      by_ltb k (s + j)
      (λ p. no_true (sym (there s m j e b (omega arith)) ∙ l.before (s + j) (omega arith) (omega arith)))
      (λ p. ap Y q ∙ step s m j i e b p f o)

  pub closing_more : Closing S T Y n
  closing_more = record {
    first = λ s e. at u s ∙ or_left (R s) (X s) (c.first s e);
    more = λ s m z t e a h f o. by_ltb k (s + z)
        (λ p. no_true (sym (there s m z e a h) ∙ l.before (s + z) (omega arith) h))
        (λ p. step s m z t e a p f o);
  }

pub closing_all : {S T R : ℕ → Bool} {k : ℕ} → Closing S T R k → 256 ≤ k → Closed S T R
unfolding SumOf
closing_all {S} {T} {R} {k} c h = record { is = is }
  where
    is : (s m z : ℕ) → S s ≡ true → SumOf T m z → s + z < 256 → R (s + z) ≡ true
    is s zero z e a o = let q : s + z ≡ s = omega arith in ap R q ∙ c.first s e
    is s (suc m) z e (i, j, f, b, g) o = let q : s + z ≡ s + j + i = omega arith in ap R q ∙ c.more s m j i e b (omega arith) f (omega arith)

pub closed_tail : {S : ℕ → Bool} (T : ℕ → Bool) {R : ℕ → Bool} {a : ℕ} → Least S 256 0 a → AllFrom a R → Closed S T R
closed_tail T l r = record { is = λ s m z e a o. r.is (s + z) (omega (arith, least_low s l e)) o }

-- ------------------------------------------------------------------ repeated
-- members that are 0 make the same sum of more
more_members : (S Z : ℕ → Bool) → Z ≡ insert S 0 → (m n z : ℕ) → m ≤ n → SumOf S m z → SumOf Z n z
unfolding SumOf
more_members S Z e zero zero z h s = s
more_members S Z e zero (suc n) z h s = (0, z, at e 0 ∙ insert_self S 0 (omega arith), more_members S Z e zero n z (omega arith) s, omega arith)
more_members S Z e (suc m) zero z h s = absurd (omega arith)
more_members S Z e (suc m) (suc n) z h (i, j, f, s, g) = (i, j, at e i ∙ insert_kept S 0 i f, more_members S Z e m n j (omega arith) s, g)

module _ {S : ℕ → Bool} {low : ℕ} {L : ℕ → Bool} (l : Multiples S low L) where
  -- the first so many, and the rest
  rest : (n x : ℕ) → low ≤ n → SumOf S n x → (y : ℕ) × (z : ℕ) × SumOf S low y × SumOf S (n - low) z × (x ≡ y + z)
  rest n x h s = let e : n ≡ low + (n - low) = omega arith in parted S low (n - low) x (rw e at s)

  pub repeated_any : {R : ℕ → Bool} (high : ℕ) → Closed L S R → Repeated S low high R
  repeated_any {R} high c = record {
    is = λ n x h b s o.
        let (y, z, u, v, e) = rest n x h s in
        ap R e ∙ c.is y (n - low) z (l.is y u (omega arith)) v (omega arith);
  }

  pub repeated_few : {Z M R : ℕ → Bool} (high : ℕ) → high < 65535 → Z ≡ insert S 0 → Multiples Z (high - low) M → Sums L M R → Repeated S low high R
  repeated_few {Z} {M} {R} high p e m c = record {
    is = λ n x h b s o.
        let (y, z, u, v, f) = rest n x h s in
        let k : n ≤ high = b p in
        ap R f ∙ c.is y z (l.is y u (omega arith)) (m.is z (more_members S Z e (n - low) (high - low) z (omega arith) v) (omega arith)) (omega arith);
  }
