-- The digits of a type's number are its numbers in words.
use mathlib.Core.Path.{◌≡◌, refl, sym, ap, ap₂, ◌∙◌}
use mathlib.Core.List.{List, [], ◌++◌, ◌∷◌}
use Prim.Native.Nat.{ℕ, zero, suc, ◌+◌, ◌*◌, ◌/◌, ◌%◌, ◌≤◌}
use native.Mathlib.Omega.{arith}
use native.Mathlib.Numerals.{add-one, add-two, add-three, add-four, add_five}
use lib.ListN.{length, take, drop, set, replicate}
use lib.Seq.{sets-eq}
use Rattle.meaning.specs.Typing.{Ty, Node, Edge, Maybe, Group, Found, absent, clash, typed}
use Rattle.meaning.specs.Table.{ty_words, found_words, padded}
use Rattle.typecode.specs.Codes.{ty_code, code_of}
use Rattle.typecode.specs.Octal.{octal}

zeros : (n m : ℕ) → n ≤ m → take n (replicate m 0) ≡ octal n 0
unfolding octal
zeros zero m h = refl
zeros (suc n) zero h = absurd (omega arith)
zeros (suc n) (suc m) h = ap (λ (l : List ℕ). 0 ∷ l) (zeros n m (omega arith))

more : (n a x : ℕ) (l : List ℕ) → x % 8 ≡ a → l ≡ octal n (x / 8) → a ∷ l ≡ octal (suc n) x
unfolding octal
more n a x l e q = ap₂ (λ (b : ℕ) (k : List ℕ). b ∷ k) (sym e) q

none_octal : (x : ℕ) → [] ≡ octal 0 x
unfolding octal
none_octal x = refl

ty_octal : (n m : ℕ) (τ : Ty) → n ≤ m → take n (ty_words τ ++ replicate m 0) ≡ octal n (ty_code τ)
unfolding ty_words ty_code
ty_octal zero m τ h = none_octal (ty_code τ)
ty_octal (suc n) m Node h = more n 1 1 (take n (replicate m 0)) refl (zeros n m (omega arith))
ty_octal (suc n) m Edge h = more n 2 2 (take n (replicate m 0)) refl (zeros n m (omega arith))
ty_octal (suc n) m (Maybe τ) h = let e : (8 * ty_code τ + 3) / 8 ≡ ty_code τ = omega arith in more n 3 (8 * ty_code τ + 3) (take n (ty_words τ ++ replicate m 0)) (omega arith) (ty_octal n m τ (omega arith) ∙ ap (octal n) (sym e))
ty_octal (suc n) m (Group τ) h = let e : (8 * ty_code τ + 4) / 8 ≡ ty_code τ = omega arith in more n 4 (8 * ty_code τ + 4) (take n (ty_words τ ++ replicate m 0)) (omega arith) (ty_octal n m τ (omega arith) ∙ ap (octal n) (sym e))

pub found_octal : (f : Found) → (f ≡ clash → ⊥) → octal 6 (code_of f) ≡ padded (found_words f)
unfolding code_of found_words padded octal
found_octal absent n = refl
found_octal clash n = absurd (n refl)
found_octal (typed τ) n = sym (ty_octal 6 6 τ (omega arith))

-- ------------------------------------------------------------------ six stores in a row
pub put_six : (l : List ℕ) (k x : ℕ) → k + 6 ≤ length l
    → set (set (set (set (set (set l k (x % 8)) (k + 1) (x / 8 % 8)) (k + 2) (x / 8 / 8 % 8)) (k + 3) (x / 8 / 8 / 8 % 8)) (k + 4) (x / 8 / 8 / 8 / 8 % 8)) (k + 5) (x / 8 / 8 / 8 / 8 / 8 % 8)
    ≡ take k l ++ octal 6 x ++ drop (k + 6) l
unfolding octal
put_six l k x p =
    rw (add-one, add-two, add-three, add-four, add_five) (sets-eq (x % 8 ∷ x / 8 % 8 ∷ x / 8 / 8 % 8 ∷ x / 8 / 8 / 8 % 8 ∷ x / 8 / 8 / 8 / 8 % 8 ∷ x / 8 / 8 / 8 / 8 / 8 % 8 ∷ []) l k p)
