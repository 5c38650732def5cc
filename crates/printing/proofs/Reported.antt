-- The numbers of a report, read by twos of its bytes; and what they are where a page was printed. Assumes nothing.
use Rattle.std.proofs.Common.{◌≡◌, ℕ, suc, ◌+◌, ◌*◌, ◌<◌, List, [], ◌∷◌, ◌++◌, get_or, take, drop, ap, ◌∙◌, arith, get_or-drop, drop-drop}
use lib.Seq.{take-nil}
use Rattle.meaning.proofs.Bytes.{digits_read}
use Rattle.meaning.proofs.Opened.{opened}
use Rattle.meaning.specs.Image.{number}
use Rattle.meaning.specs.Report.{report_bytes, reported, undigits}
use Rattle.words.specs.Size.{Size}

-- two digits, and those behind them
two_digits : (n : ℕ) (u : List ℕ) → undigits (take (suc (suc n)) u) ≡ get_or u 0 0 + 256 * get_or u 1 0 + 65536 * undigits (take n (drop 2 u))
unfolding undigits
two_digits n [] = let e : undigits (take n []) ≡ 0 = ap undigits (take-nil n) in omega (arith, e)
two_digits n (a ∷ []) = let e : undigits (take n []) ≡ 0 = ap undigits (take-nil n) in omega (arith, e)
two_digits n (a ∷ b ∷ u) = omega arith

digits_at : (n k : ℕ) (l : List ℕ) → undigits (take (suc (suc n)) (drop k l)) ≡ number l k + 65536 * undigits (take n (drop (k + 2) l))
unfolding number
digits_at n k l =
    let a : get_or (drop k l) 0 0 ≡ get_or l k 0 = get_or-drop k l 0 0 ∙ (let e : k + 0 ≡ k = omega arith in ap (λ (i : ℕ). get_or l i 0) e) in
    let b : get_or (drop k l) 1 0 ≡ get_or l (suc k) 0 = get_or-drop k l 1 0 ∙ (let e : k + 1 ≡ suc k = omega arith in ap (λ (i : ℕ). get_or l i 0) e) in
    let c : undigits (take n (drop 2 (drop k l))) ≡ undigits (take n (drop (k + 2) l)) = ap (λ (u : List ℕ). undigits (take n u)) (drop-drop 2 k l) in
    omega (arith, two_digits n (drop k l), a, b, c)

-- the four pairs of bytes of a number
pub number_read : (l : List ℕ) (i a b c d : ℕ) → Size l (8 * i) a → Size l (8 * i + 2) b → Size l (8 * i + 4) c → Size l (8 * i + 6) d → a + 65536 * b + 4294967296 * (c + 65536 * d) ≡ reported i l
unfolding reported undigits
number_read l i a b c d p q r s =
    let at : ℕ → ℕ → ℕ = λ n k. undigits (take n (drop k l)) in
    let e₁ : 8 * i + 2 + 2 ≡ 8 * i + 4 = omega arith in
    let e₂ : 8 * i + 4 + 2 ≡ 8 * i + 6 = omega arith in
    let f₁ : at 4 (8 * i + 2 + 2) ≡ at 4 (8 * i + 4) = ap (at 4) e₁ in
    let f₂ : at 2 (8 * i + 4 + 2) ≡ at 2 (8 * i + 6) = ap (at 2) e₂ in
    omega (arith, digits_at 6 (8 * i) l, digits_at 4 (8 * i + 2) l, f₁, digits_at 2 (8 * i + 4) l, f₂, digits_at 0 (8 * i + 6) l, p.is, q.is, r.is, s.is)

-- the numbers of a report that was written, whatever follows its bytes
module _ (a b c d e f : ℕ) (rest : List ℕ) where
  pub refusal_read : a < 18446744073709551616 → reported 0 (report_bytes a b c d e f ++ rest) ≡ a
  unfolding opened
  refusal_read h = digits_read 8 a h

  pub count_read : c < 18446744073709551616 → reported 2 (report_bytes a b c d e f ++ rest) ≡ c
  unfolding opened
  count_read h = digits_read 8 c h

  pub used_read : d < 18446744073709551616 → reported 3 (report_bytes a b c d e f ++ rest) ≡ d
  unfolding opened
  used_read h = digits_read 8 d h

  pub done_read : e < 18446744073709551616 → reported 4 (report_bytes a b c d e f ++ rest) ≡ e
  unfolding opened
  done_read h = digits_read 8 e h
