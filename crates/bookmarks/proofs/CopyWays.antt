-- The ways through `copy_bookmark`.
use mathlib.Core.Path.{◌∙◌, ◌≡◌, ap, refl, sym}
use mathlib.Core.List.{List, ◌++◌}
use Prim.Native.Nat.{◌+◌, ◌-◌, ◌<◌, ◌≤◌, ℕ}
use native.Mathlib.Omega.{arith}
use lib.ListN.{drop, length, length-append, length-drop, take}
use lib.Seq.{length-take-le, take_all, take_at, take-take}
use Rattle.bookmarks.specs.Copies.{Copied}

pub copied_all : (bookmark rec₀ rec : List ℕ) → length bookmark ≤ length rec₀ → rec ≡ take 0 rec₀ ++ bookmark ++ drop (0 + length bookmark) rec₀ → Copied bookmark rec (length bookmark)
copied_all bookmark rec₀ rec h is =
    let z : 0 + length bookmark ≡ length bookmark = omega arith in
    let e : rec ≡ bookmark ++ drop (length bookmark) rec₀ = is ∙ ap (λ (k : ℕ). bookmark ++ drop k rec₀) z in
    let l : length bookmark ≤ length rec = omega (arith, ap length e, length-append bookmark (drop (length bookmark) rec₀)) in
    record {
      is = ap (take (length bookmark)) e ∙ (take_at bookmark (drop (length bookmark) rec₀) (length bookmark) refl ∙ sym (take_all (length rec) bookmark l));
      room = l;
      low = λ k i j. i;
    }

pub copied_part : (bookmark rec₀ rec : List ℕ) → length rec₀ < length bookmark
    → rec ≡ take 0 rec₀ ++ take (length rec₀ - 0) (drop 0 bookmark) ++ drop (0 + length (take (length rec₀ - 0) (drop 0 bookmark))) rec₀ → Copied bookmark rec (length rec₀)
copied_part bookmark rec₀ rec h is =
    let o : length rec₀ - 0 ≡ length rec₀ = omega arith in
    let k : length (take (length rec₀) bookmark) ≡ length rec₀ = length-take-le (length rec₀) bookmark (omega arith) in
    let d : List ℕ = drop (0 + length (take (length rec₀) bookmark)) rec₀ in
    let e : rec ≡ take (length rec₀) bookmark ++ d = is ∙ ap (λ (m : ℕ). take m bookmark ++ drop (0 + length (take m bookmark)) rec₀) o in
    let l : length rec ≡ length rec₀ = omega (arith, ap length e, length-append (take (length rec₀) bookmark) d, length-drop (0 + length (take (length rec₀) bookmark)) rec₀) in
    record {
      is = ap (take (length rec₀)) e ∙ (take_at (take (length rec₀) bookmark) d (length rec₀) k ∙ ap (λ (m : ℕ). take m bookmark) (sym l));
      room = omega arith;
      low = λ m i j. omega arith;
    }

-- the first k words of what is copied, where the bookmark has so many
module _ {bookmark rec : List ℕ} {r : ℕ} (copied : Copied bookmark rec r) (k : ℕ) (long : k ≤ length bookmark) (room : k ≤ length rec) where
  pub copied_known : k ≤ r
  copied_known = copied.low k long room

  pub copied_words : take k rec ≡ take k bookmark
  copied_words = sym (take-take k r rec copied_known) ∙ (ap (take k) copied.is ∙ take-take k (length rec) bookmark room)
