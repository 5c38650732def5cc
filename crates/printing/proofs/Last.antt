-- The loop that finds where the last record begins. Assumes nothing.
use Rattle.std.proofs.Common.{◌≡◌, ℕ, zero, suc, ◌+◌, ◌-◌, ◌<◌, ◌≤◌, min, List, ◌++◌, length, take, drop, sym, ap, ◌∙◌, subst, arith, length-drop, length-take-le, take-add}
use Rattle.meaning.proofs.Lists.{take_front}
use Rattle.meaning.specs.Record.{record_size_lem}
use Rattle.meaning.specs.Typing.{Found}
use Rattle.printing.specs.Sizes.{LastRecord, Marked, RecordEnd, TypesAt, start_of}

-- nothing was passed yet; or the record at last, with which it is at
pub data Passed (f : ℕ → Found) (w : List ℕ) (last at : ℕ) : Type 0 where
  none_passed : at ≡ 0 → Passed f w last at
  one_passed : (k : ℕ) → last ≡ start_of f w k → at ≡ min (start_of f w (suc k)) (length w) → Passed f w last at

-- last is the last record passed, and at is behind it
pub record Seeking (t w : List ℕ) (last at : ℕ) : Type 0 where
  pub is : (f : ℕ → Found) → TypesAt f t → Passed f w last at
  pub within : (at ≤ length w) × (last ≤ length w)
  pub inside : 0 < at → last < length w

pub seeking_start : (t w : List ℕ) → Seeking t w 0 0
seeking_start t w = record { is = λ f a. none_passed (omega arith); within = (omega arith, omega arith); inside = λ h. absurd (omega (arith, h)) }

-- a record that begins where others end
next_start : (f : ℕ → Found) (w : List ℕ) (k at r : ℕ) → at ≡ start_of f w k → r ≡ min (at + record_size_lem f (drop at w)) (length w) → r ≡ min (start_of f w (suc k)) (length w)
unfolding start_of
next_start f w k at r e h = h ∙ ap (λ (i : ℕ). min (i + record_size_lem f (drop i w)) (length w)) e

pub seeking_more : (t w : List ℕ) (last at r : ℕ) → at < length w → Seeking t w last at → RecordEnd t w at r → Seeking t w at r
unfolding start_of
seeking_more t w last at r l s h = record { is = λ f a. go f a (s.is f a); within = (h.within.0, omega arith); inside = λ k. l }
  where
    go : (f : ℕ → Found) → TypesAt f t → Passed f w last at → Passed f w at r
    go f a (none_passed z) = one_passed zero z (next_start f w zero at r z (h.is f a))
    go f a (one_passed k e q) =
        let i : at ≡ start_of f w (suc k) = omega (arith, q, l) in
        one_passed (suc k) i (next_start f w (suc k) at r i (h.is f a))

pub seeking_end : (t w : List ℕ) (last at : ℕ) → length w ≤ at → Seeking t w last at → LastRecord t w last
seeking_end t w last at l s = record { is = λ f a p. go f p (s.is f a); within = s.within.1; inside = λ p. s.inside (omega (arith, p, l)) }
  where
    go : (f : ℕ → Found) → 0 < length w → Passed f w last at → (k : ℕ) × (last ≡ start_of f w k) × (length w ≤ start_of f w (suc k))
    go f p (none_passed z) = absurd (omega (arith, z, l, p))
    go f p (one_passed k e q) = (k, e, omega (arith, q, l))

-- the copy of what stands behind the other records
pub marked : (t page mark mark' : List ℕ) (used last : ℕ) → used ≤ length page → LastRecord t (take (used - 0) (drop 0 page)) last → mark' ≡ take 0 mark ++ take (used - last) (drop last page) ++ drop (0 + length (take (used - last) (drop last page))) mark → Marked t page used mark' (used - last)
marked t page mark mark' used last h l e =
    let z : used - 0 ≡ used = omega arith in
    let l₂ : LastRecord t (take used page) last = subst (λ (u : List ℕ). LastRecord t u last) (ap (λ (n : ℕ). take n page) z) l in
    let le : last ≤ used = omega (arith, l₂.within, length-take-le used page h) in
    let n : ℕ = used - last in
    let part : List ℕ = take n (drop last page) in
    let b : used - n ≡ last = omega (arith, le) in
    let s : used ≡ last + n = omega (arith, le) in
    let size : length part ≡ n = length-take-le n (drop last page) (omega (arith, length-drop last page, le, h)) in
    let front : take n mark' ≡ part = ap (λ (v : List ℕ). take n v) e ∙ take_front n part (drop (0 + length part) mark) size in
    let split : take used page ≡ take last page ++ part = ap (λ (i : ℕ). take i page) s ∙ take-add last n page in
    record { last = subst (λ (i : ℕ). LastRecord t (take used page) i) (sym b) l₂; copied = split ∙ (ap (λ (v : List ℕ). take last page ++ v) (sym front) ∙ ap (λ (i : ℕ). take i page ++ take n mark') (sym b)); within = omega arith }
