-- The report's bytes: the digits of a number, and the loop that writes eight numbers.
use mathlib.Core.Path.{◌≡◌, refl, sym, ap, ◌∙◌}
use mathlib.Core.List.{List, [], ◌∷◌, ◌++◌, append-nil, append_assoc}
use Prim.Native.Nat.{ℕ, zero, suc, ◌+◌, ◌-◌, ◌*◌, ◌/◌, ◌<◌, ◌≤◌}
use native.Mathlib.Numerals.{add-one}
use native.Mathlib.Omega.{arith}
use lib.ListN.{length, take, drop, get_or, length-append}
use lib.Seq.{take_at, drop-append-add, drop-drop, take-suc, take_all, length-take-le}
use borrow.Rule.Slice.PartMut.{put_mid}
use Rattle.std.specs.Int.{w64, to_le_bytes}
use Rattle.meaning.specs.Basics.{each}
use Rattle.meaning.specs.Report.{digits, over, report_bytes}

-- ------------------------------------------------------------------ a number's eight bytes
-- b are the eight bytes of v
pub put_number_law : (l b : List ℕ) (k v : ℕ) → k + 8 ≤ length l → b ≡ to_le_bytes w64 v → put_mid k (k + 8 - k) l b ≡ take k l ++ digits 8 v ++ drop (k + 8) l
unfolding digits
put_number_law l b k v h e =
    let p : k + 8 - k ≡ 8 = omega arith in
    let c : v / 256 / 256 ≡ v / 65536 = omega arith in
    let d : v / 65536 / 256 ≡ v / 16777216 = omega arith in
    let f : v / 16777216 / 256 ≡ v / 4294967296 = omega arith in
    let g : v / 4294967296 / 256 ≡ v / 1099511627776 = omega arith in
    let m : v / 1099511627776 / 256 ≡ v / 281474976710656 = omega arith in
    let n : v / 281474976710656 / 256 ≡ v / 72057594037927936 = omega arith in
    rw (append_assoc (take k l) (digits 8 v) (drop (k + 8) l), e, p, c, d, f, g, m, n, drop-drop 8 k l) refl

-- ------------------------------------------------------------------ eight numbers
length_digits : (n v : ℕ) → length (digits n v) ≡ n
unfolding digits
length_digits zero v = refl
length_digits (suc n) v = ap suc (length_digits n (v / 256))

length_each : (vs : List ℕ) → length (each vs (digits 8)) ≡ length vs * 8
unfolding each
length_each [] = refl
length_each (v ∷ vs) =
    length-append (digits 8 v) (each vs (digits 8)) ∙ rw (length_digits 8 v, length_each vs)
    (let e : 8 + length vs * 8 ≡ suc (length vs) * 8 = omega arith in e)

each_snoc : (vs : List ℕ) (v : ℕ) → each (vs ++ (v ∷ [])) (digits 8) ≡ each vs (digits 8) ++ digits 8 v
unfolding each
each_snoc [] v = append-nil (digits 8 v)
each_snoc (x ∷ vs) v = rw (each_snoc vs v) (sym (append_assoc (digits 8 x) (each vs (digits 8)) (digits 8 v)))

-- the first i of the eight numbers v are written
pub record Written (v d₀ d : List ℕ) (i : ℕ) : Type 0 where
  pub eight : length v ≡ 8
  pub within : i ≤ 8
  pub room : 64 ≤ length d₀
  pub long : length d ≡ length d₀
  pub is : d ≡ each (take i v) (digits 8) ++ drop (i * 8) d₀

pub written_none : (v d : List ℕ) → length v ≡ 8 → 64 ≤ length d → Written v d d 0
unfolding each
written_none v d e h = record { eight = e; within = omega arith; room = h; long = refl; is = refl }

module _ {v d₀ d : List ℕ} {i : ℕ} (w : Written v d₀ d i) where
  pub written_more : (e : List ℕ) → i < 8 → length e ≡ length d → e ≡ take (i * 8) d ++ digits 8 (get_or v i 0) ++ drop (i * 8 + 8) d
      → Written v d₀ e (i + 1)
  written_more e h l q =
      let p : List ℕ = each (take i v) (digits 8) in
      let n : length p ≡ i * 8 = length_each (take i v) ∙ rw (length-take-le i v (omega (arith, w.eight))) in
      let s : i < length v = omega (arith, w.eight) in
      let a : take (i * 8) d ≡ p = rw w.is (take_at p (drop (i * 8) d₀) (i * 8) n) in
      let b : drop (i * 8 + 8) d ≡ drop (i * 8 + 8) d₀ = rw (w.is, ← n) (drop-append-add p (drop (length p) d₀) 8 ∙ drop-drop 8 (length p) d₀) in
      let m : (i + 1) * 8 ≡ i * 8 + 8 = omega arith in
      record {
        eight = w.eight;
        within = omega arith;
        room = w.room;
        long = l ∙ w.long;
        is = q ∙ rw (a, b, m, add-one, take-suc v i 0 s, each_snoc (take i v) (get_or v i 0));
      }

  pub written_all : 8 ≤ i → d ≡ each v (digits 8) ++ drop 64 d₀
  written_all h =
      let e : i ≡ 8 = omega (arith, w.within) in
      w.is ∙ rw (e, take_all 8 v (omega (arith, w.eight)))

pub report_written : (n r a b c d : ℕ) (l l' : List ℕ) → l' ≡ each (n ∷ r ∷ a ∷ b ∷ c ∷ d ∷ 0 ∷ 0 ∷ []) (digits 8) ++ drop 64 l
    → l' ≡ over (report_bytes n r a b c d) l
unfolding over report_bytes
report_written n r a b c d l l' e = e ∙ rw (length_each (n ∷ r ∷ a ∷ b ∷ c ∷ d ∷ 0 ∷ 0 ∷ []))
