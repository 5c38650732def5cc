-- Sets that have at least the sums of members of others, those below 256: what more they have promises nothing.
use Rattle.std.specs.Prelude.{◌≡◌, Bool, true, ◌+◌, ◌-◌, ◌<◌, ◌≤◌, suc, zero, ℕ}
use Rattle.bits.specs.Sets.{bit}

-- r has the word's bits moved up by b, and those that the word below loses by it
pub record Carried (word below b r : ℕ) : Type 0 where
  pub own : (t : ℕ) → t + b < 64 → bit word t ≡ true → bit r (t + b) ≡ true
  pub carry : (t : ℕ) → t < 64 → 64 ≤ t + b → bit below t ≡ true → bit r (t + b - 64) ≡ true

-- k + n for each k of S
pub record Raised (S : ℕ → Bool) (n : ℕ) (R : ℕ → Bool) : Type 0 where
  pub is : (k : ℕ) → S k ≡ true → k + n < 256 → R (k + n) ≡ true

-- all numbers from n on
pub record AllFrom (n : ℕ) (R : ℕ → Bool) : Type 0 where
  pub is : (k : ℕ) → n ≤ k → k < 256 → R k ≡ true

-- the sums of a member of each
pub record Sums (S T R : ℕ → Bool) : Type 0 where
  pub is : (i j : ℕ) → S i ≡ true → T j ≡ true → i + j < 256 → R (i + j) ≡ true

-- x is the sum of n members of S
unfoldable pub SumOf : (ℕ → Bool) → ℕ → ℕ → Type 0
SumOf S zero x = x ≡ 0
SumOf S (suc n) x = (i : ℕ) × (j : ℕ) × (S i ≡ true) × SumOf S n j × (x ≡ i + j)

-- the sums of n members of S
pub record Multiples (S : ℕ → Bool) (n : ℕ) (R : ℕ → Bool) : Type 0 where
  pub is : (x : ℕ) → SumOf S n x → x < 256 → R x ≡ true

-- the sums of a member of S and any number of steps
pub record Closed (S steps R : ℕ → Bool) : Type 0 where
  pub is : (s m z : ℕ) → S s ≡ true → SumOf steps m z → s + z < 256 → R (s + z) ≡ true

-- the sums of low up to high members of S; high: 65535 is no bound
pub record Repeated (S : ℕ → Bool) (low high : ℕ) (R : ℕ → Bool) : Type 0 where
  pub is : (n x : ℕ) → low ≤ n → (high < 65535 → n ≤ high) → SumOf S n x → x < 256 → R x ≡ true
