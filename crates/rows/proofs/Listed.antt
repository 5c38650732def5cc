-- The kinds that 01 lists, as cases, and what a row of each is.
use mathlib.Core.Path.{◌≡◌, refl, sym, ap, ◌∙◌}
use mathlib.Core.List.{List, [], ◌∷◌}
use mathlib.Core.Bool.{Bool, ◌&&◌, and-false, and-true, false, true}
use Prim.Native.Nat.{ℕ, zero, suc, ◌<◌, ◌≤◌}
use native.Mathlib.Omega.{arith}
use lib.Dec.{eqb, ltb, leb}
use lib.ListN.{get_or}
use borrow.Author.Tests.{leb-true, ne_eqb}
use Rattle.std.specs.Prelude.{if◌then◌else◌}
use Rattle.meaning.specs.Table.{Form, form, fine, if_zero, is_bad, pattern_form, condition_form, pattern_row_lem, condition_row, is_variable_lem, names_of}
use Rattle.meaning.specs.Table.{Row as RowOf}
use Rattle.rows.specs.Rows.{pattern_kind_lem, condition_kind_lem}
use Rattle.rows.specs.Uses.{uses_of, use_of_lem, allowed}
use Rattle.rows.proofs.Sorts.{pattern_high, condition_high}
use Rattle.meaning.proofs.Logic.{no_false}

abbrev pub five : ℕ → ℕ → ℕ → ℕ → ℕ → RowOf
five k p q r s = record { kind = k; p = p; q = q; r = r; s = s }

-- a kind that 01 does not list: whatever the numbers, the row is bad
pub record Unlisted (k : ℕ) : Type 0 where
  pub bad : (p q r s : ℕ) → form (five k p q r s) ≡ is_bad
  pub unusable : uses_of k ≡ 7 ∷ 7 ∷ 7 ∷ 7 ∷ []
  pub no_pattern : pattern_kind_lem k ≡ false
  pub no_condition : condition_kind_lem k ≡ false

-- the kinds that 01 lists, and all others
pub data Kind : ℕ → Type 0 where
  kind1 : Kind 1
  kind2 : Kind 2
  kind3 : Kind 3
  kind4 : Kind 4
  kind5 : Kind 5
  kind6 : Kind 6
  kind7 : Kind 7
  kind8 : Kind 8
  kind16 : Kind 16
  kind17 : Kind 17
  kind18 : Kind 18
  kind19 : Kind 19
  kind20 : Kind 20
  unlisted : {k : ℕ} → Unlisted k → Kind k

pub high : (k : ℕ) → 20 < k → Unlisted k
unfolding form uses_of pattern_kind_lem condition_kind_lem
high k h = record {
  bad = λ p q r s. rw (n 1 refl, n 2 refl, n 3 refl, n 4 refl, n 5 refl, n 6 refl, n 7 refl, n 8 refl, n 16 refl, n 17 refl, n 18 refl, n 19 refl, n 20 refl);
  unusable = rw (n 1 refl, n 2 refl, n 3 refl, n 4 refl, n 5 refl, n 6 refl, n 7 refl, n 8 refl, n 16 refl, n 17 refl, n 18 refl, n 19 refl, n 20 refl);
  no_pattern = pattern_high k (omega arith);
  no_condition = condition_high k h;
}
  where
    n : (m : ℕ) → leb m 20 ≡ true → eqb k m ≡ false
    n m e = let z : m ≤ 20 = leb-true m 20 e in ne_eqb k m (λ q. absurd (omega arith))

pub kind_of : (k : ℕ) → Kind k
unfolding form uses_of pattern_kind_lem condition_kind_lem
kind_of zero = unlisted (record { bad = λ p q r s. refl; unusable = refl; no_pattern = refl; no_condition = refl })
kind_of (suc zero) = kind1
kind_of (suc (suc zero)) = kind2
kind_of (suc (suc (suc zero))) = kind3
kind_of (suc (suc (suc (suc zero)))) = kind4
kind_of (suc (suc (suc (suc (suc zero))))) = kind5
kind_of (suc (suc (suc (suc (suc (suc zero)))))) = kind6
kind_of (suc (suc (suc (suc (suc (suc (suc zero))))))) = kind7
kind_of (suc (suc (suc (suc (suc (suc (suc (suc zero)))))))) = kind8
kind_of (suc (suc (suc (suc (suc (suc (suc (suc (suc zero))))))))) = unlisted (record { bad = λ p q r s. refl; unusable = refl; no_pattern = refl; no_condition = refl })
kind_of (suc (suc (suc (suc (suc (suc (suc (suc (suc (suc zero)))))))))) = unlisted (record { bad = λ p q r s. refl; unusable = refl; no_pattern = refl; no_condition = refl })
kind_of (suc (suc (suc (suc (suc (suc (suc (suc (suc (suc (suc zero))))))))))) = unlisted (record { bad = λ p q r s. refl; unusable = refl; no_pattern = refl; no_condition = refl })
kind_of (suc (suc (suc (suc (suc (suc (suc (suc (suc (suc (suc (suc zero)))))))))))) = unlisted (record { bad = λ p q r s. refl; unusable = refl; no_pattern = refl; no_condition = refl })
kind_of (suc (suc (suc (suc (suc (suc (suc (suc (suc (suc (suc (suc (suc zero))))))))))))) = unlisted (record { bad = λ p q r s. refl; unusable = refl; no_pattern = refl; no_condition = refl })
kind_of (suc (suc (suc (suc (suc (suc (suc (suc (suc (suc (suc (suc (suc (suc zero)))))))))))))) = unlisted (record { bad = λ p q r s. refl; unusable = refl; no_pattern = refl; no_condition = refl })
kind_of (suc (suc (suc (suc (suc (suc (suc (suc (suc (suc (suc (suc (suc (suc (suc zero))))))))))))))) = unlisted (record { bad = λ p q r s. refl; unusable = refl; no_pattern = refl; no_condition = refl })
kind_of (suc (suc (suc (suc (suc (suc (suc (suc (suc (suc (suc (suc (suc (suc (suc (suc zero)))))))))))))))) = kind16
kind_of (suc (suc (suc (suc (suc (suc (suc (suc (suc (suc (suc (suc (suc (suc (suc (suc (suc zero))))))))))))))))) = kind17
kind_of (suc (suc (suc (suc (suc (suc (suc (suc (suc (suc (suc (suc (suc (suc (suc (suc (suc (suc zero)))))))))))))))))) = kind18
kind_of (suc (suc (suc (suc (suc (suc (suc (suc (suc (suc (suc (suc (suc (suc (suc (suc (suc (suc (suc zero))))))))))))))))))) = kind19
kind_of (suc (suc (suc (suc (suc (suc (suc (suc (suc (suc (suc (suc (suc (suc (suc (suc (suc (suc (suc (suc zero)))))))))))))))))))) = kind20
kind_of (suc (suc (suc (suc (suc (suc (suc (suc (suc (suc (suc (suc (suc (suc (suc (suc (suc (suc (suc (suc (suc n))))))))))))))))))))) =
    let h : 20 < suc (suc (suc (suc (suc (suc (suc (suc (suc (suc (suc (suc (suc (suc (suc (suc (suc (suc (suc (suc (suc n)))))))))))))))))))) = omega arith in
    unlisted (high _ h)

-- the rows that a row of the kind names
unfoldable pub parts_of : ℕ → ℕ → ℕ → List ℕ
parts_of k p q = if ltb k 5 then [] else if ltb k 8 then p ∷ q ∷ [] else if eqb k 8 then p ∷ [] else if ltb k 18 then [] else if ltb k 20 then p ∷ q ∷ [] else if eqb k 20 then p ∷ [] else []

-- ------------------------------------------------------------------ what stands for a kind's uses is what fine asks
module _ (rows : List RowOf) (i : ℕ) where
  unused_fine : (b : Bool) (f : Form) → fine rows i (if_zero b f) ≡ (fine rows i f && b)
  unfolding fine if_zero
  unused_fine true f = sym (and-true (fine rows i f))
  unused_fine false f = sym (and-false (fine rows i f))

  -- the four uses, and a least count not above the greatest
  unfoldable pub fitted : ℕ → ℕ → ℕ → ℕ → ℕ → Bool
  fitted k p q r s = allowed rows i (use_of_lem k 0) p && (allowed rows i (use_of_lem k 1) q && (allowed rows i (use_of_lem k 2) r && (allowed rows i (use_of_lem k 3) s && (if eqb k 8 then leb r s else true))))

  atom : (x b c : Bool) → (x && (b && c)) ≡ (x && (true && (b && (c && true))))
  atom true true c = sym (and-true c)
  atom true false c = refl
  atom false b c = refl

  two : (x y b c : Bool) → ((x && y) && (b && c)) ≡ (x && (y && (b && (c && true))))
  two true true true c = sym (and-true c)
  two true true false c = refl
  two true false b c = refl
  two false y b c = refl

  counted : (x b u v : Bool) → ((x && (u && v)) && b) ≡ (x && (b && (u && (true && v))))
  counted true b true true = sym (and-true b)
  counted true b true false = sym (and-false b)
  counted true b false v = sym (and-false b)
  counted false b u v = refl

  pub fine_fitted : {k : ℕ} → Kind k → (p q r s : ℕ) → fine rows i (form (five k p q r s)) ≡ fitted k p q r s
  unfolding fine form uses_of use_of_lem allowed fitted
  fine_fitted kind1 p q r s = unused_fine (eqb r 0 && eqb s 0) _ ∙ atom (leb p 8) (eqb r 0) (eqb s 0)
  fine_fitted kind2 p q r s = unused_fine (eqb r 0 && eqb s 0) _ ∙ atom (leb p 8) (eqb r 0) (eqb s 0)
  fine_fitted kind3 p q r s = unused_fine (eqb r 0 && eqb s 0) _ ∙ atom (leb p 8) (eqb r 0) (eqb s 0)
  fine_fitted kind4 p q r s = unused_fine (eqb r 0 && eqb s 0) _ ∙ atom (leb p 8) (eqb r 0) (eqb s 0)
  fine_fitted kind5 p q r s = unused_fine (eqb r 0 && eqb s 0) _ ∙ two (pattern_row_lem rows i p) (pattern_row_lem rows i q) (eqb r 0) (eqb s 0)
  fine_fitted kind6 p q r s = unused_fine (eqb r 0 && eqb s 0) _ ∙ two (pattern_row_lem rows i p) (pattern_row_lem rows i q) (eqb r 0) (eqb s 0)
  fine_fitted kind7 p q r s = unused_fine (eqb r 0 && eqb s 0) _ ∙ two (pattern_row_lem rows i p) (condition_row rows i q) (eqb r 0) (eqb s 0)
  fine_fitted kind8 p q r s = unused_fine (eqb q 0) _ ∙ counted (pattern_row_lem rows i p) (eqb q 0) (leb r 65534) (leb r s)
  fine_fitted kind16 p q r s = unused_fine (eqb s 0) _ ∙ constants (is_variable_lem p) (eqb s 0)
    where
      constants : (x b : Bool) → (x && b) ≡ (x && (true && (true && (b && true))))
      constants x b = ap (λ (c : Bool). x && c) (sym (and-true b))
  fine_fitted kind17 p q r s = properties (is_variable_lem p) (is_variable_lem r)
    where
      properties : (x y : Bool) → (x && y) ≡ (x && (true && (y && (true && true))))
      properties x y = ap (λ (c : Bool). x && c) (sym (and-true y))
  fine_fitted kind18 p q r s = unused_fine (eqb r 0 && eqb s 0) _ ∙ two (condition_row rows i p) (condition_row rows i q) (eqb r 0) (eqb s 0)
  fine_fitted kind19 p q r s = unused_fine (eqb r 0 && eqb s 0) _ ∙ two (condition_row rows i p) (condition_row rows i q) (eqb r 0) (eqb s 0)
  fine_fitted kind20 p q r s = unused_fine (eqb q 0 && (eqb r 0 && eqb s 0)) _ ∙ negs (condition_row rows i p) (eqb q 0) (eqb r 0) (eqb s 0)
    where
      negs : (x a b c : Bool) → (x && (a && (b && c))) ≡ (x && (a && (b && (c && true))))
      negs x a b c = ap (λ (d : Bool). x && (a && (b && d))) (sym (and-true c))
  fine_fitted (unlisted {k} u) p q r s = ap (fine rows i) (u.bad p q r s) ∙ sym (ap (λ (us : List ℕ). allowed rows i (get_or us 0 7) p && (allowed rows i (get_or us 1 7) q && (allowed rows i (get_or us 2 7) r && (allowed rows i (get_or us 3 7) s && (if eqb k 8 then leb r s else true))))) u.unusable)

  -- a row that is not malformed is of the sort of its kind
  pub used : (b : Bool) (f : Form) → fine rows i (if_zero b f) ≡ true → if_zero b f ≡ f
  unfolding fine if_zero
  used true f e = refl
  used false f e = no_false e

  pub pattern_by_kind : {k : ℕ} → Kind k → (p q r s : ℕ) → fine rows i (form (five k p q r s)) ≡ true → pattern_form (form (five k p q r s)) ≡ pattern_kind_lem k
  unfolding form pattern_form pattern_kind_lem
  pattern_by_kind kind1 p q r s e = ap pattern_form (used (eqb r 0 && eqb s 0) _ e)
  pattern_by_kind kind2 p q r s e = ap pattern_form (used (eqb r 0 && eqb s 0) _ e)
  pattern_by_kind kind3 p q r s e = ap pattern_form (used (eqb r 0 && eqb s 0) _ e)
  pattern_by_kind kind4 p q r s e = ap pattern_form (used (eqb r 0 && eqb s 0) _ e)
  pattern_by_kind kind5 p q r s e = ap pattern_form (used (eqb r 0 && eqb s 0) _ e)
  pattern_by_kind kind6 p q r s e = ap pattern_form (used (eqb r 0 && eqb s 0) _ e)
  pattern_by_kind kind7 p q r s e = ap pattern_form (used (eqb r 0 && eqb s 0) _ e)
  pattern_by_kind kind8 p q r s e = ap pattern_form (used (eqb q 0) _ e)
  pattern_by_kind kind16 p q r s e = ap pattern_form (used (eqb s 0) _ e)
  pattern_by_kind kind17 p q r s e = refl
  pattern_by_kind kind18 p q r s e = ap pattern_form (used (eqb r 0 && eqb s 0) _ e)
  pattern_by_kind kind19 p q r s e = ap pattern_form (used (eqb r 0 && eqb s 0) _ e)
  pattern_by_kind kind20 p q r s e = ap pattern_form (used (eqb q 0 && (eqb r 0 && eqb s 0)) _ e)
  pattern_by_kind (unlisted u) p q r s e = ap pattern_form (u.bad p q r s) ∙ sym u.no_pattern

  pub condition_by_kind : {k : ℕ} → Kind k → (p q r s : ℕ) → fine rows i (form (five k p q r s)) ≡ true → condition_form (form (five k p q r s)) ≡ condition_kind_lem k
  unfolding form condition_form condition_kind_lem
  condition_by_kind kind1 p q r s e = ap condition_form (used (eqb r 0 && eqb s 0) _ e)
  condition_by_kind kind2 p q r s e = ap condition_form (used (eqb r 0 && eqb s 0) _ e)
  condition_by_kind kind3 p q r s e = ap condition_form (used (eqb r 0 && eqb s 0) _ e)
  condition_by_kind kind4 p q r s e = ap condition_form (used (eqb r 0 && eqb s 0) _ e)
  condition_by_kind kind5 p q r s e = ap condition_form (used (eqb r 0 && eqb s 0) _ e)
  condition_by_kind kind6 p q r s e = ap condition_form (used (eqb r 0 && eqb s 0) _ e)
  condition_by_kind kind7 p q r s e = ap condition_form (used (eqb r 0 && eqb s 0) _ e)
  condition_by_kind kind8 p q r s e = ap condition_form (used (eqb q 0) _ e)
  condition_by_kind kind16 p q r s e = ap condition_form (used (eqb s 0) _ e)
  condition_by_kind kind17 p q r s e = refl
  condition_by_kind kind18 p q r s e = ap condition_form (used (eqb r 0 && eqb s 0) _ e)
  condition_by_kind kind19 p q r s e = ap condition_form (used (eqb r 0 && eqb s 0) _ e)
  condition_by_kind kind20 p q r s e = ap condition_form (used (eqb q 0 && (eqb r 0 && eqb s 0)) _ e)
  condition_by_kind (unlisted u) p q r s e = ap condition_form (u.bad p q r s) ∙ sym u.no_condition

  pub names_by_kind : {k : ℕ} → Kind k → (p q r s : ℕ) → fine rows i (form (five k p q r s)) ≡ true → names_of (form (five k p q r s)) ≡ parts_of k p q
  unfolding form fine names_of parts_of
  names_by_kind kind1 p q r s e = ap names_of (used (eqb r 0 && eqb s 0) _ e)
  names_by_kind kind2 p q r s e = ap names_of (used (eqb r 0 && eqb s 0) _ e)
  names_by_kind kind3 p q r s e = ap names_of (used (eqb r 0 && eqb s 0) _ e)
  names_by_kind kind4 p q r s e = ap names_of (used (eqb r 0 && eqb s 0) _ e)
  names_by_kind kind5 p q r s e = ap names_of (used (eqb r 0 && eqb s 0) _ e)
  names_by_kind kind6 p q r s e = ap names_of (used (eqb r 0 && eqb s 0) _ e)
  names_by_kind kind7 p q r s e = ap names_of (used (eqb r 0 && eqb s 0) _ e)
  names_by_kind kind8 p q r s e = ap names_of (used (eqb q 0) _ e)
  names_by_kind kind16 p q r s e = ap names_of (used (eqb s 0) _ e)
  names_by_kind kind17 p q r s e = refl
  names_by_kind kind18 p q r s e = ap names_of (used (eqb r 0 && eqb s 0) _ e)
  names_by_kind kind19 p q r s e = ap names_of (used (eqb r 0 && eqb s 0) _ e)
  names_by_kind kind20 p q r s e = ap names_of (used (eqb q 0 && (eqb r 0 && eqb s 0)) _ e)
  names_by_kind (unlisted u) p q r s e = no_false (sym (ap (fine rows i) (u.bad p q r s)) ∙ e)
