-- Records one after another: where they begin, and that the bookmark that is taken of them is the last. Assumes nothing.
use Rattle.std.proofs.Common.{◌≡◌, ℕ, zero, suc, ◌+◌, ◌-◌, ◌<◌, ◌≤◌, List, [], ◌∷◌, ◌++◌, length, take, drop, sym, refl, ap, ◌∙◌, subst, append_assoc, append-nil, arith, length-append}
use lib.Seq.{drop-append-add, drop-append_seam, take-append_seam}
use Rattle.meaning.proofs.Beginnings.{all_right}
use Rattle.meaning.proofs.Lists.{take_front}
use Rattle.meaning.proofs.QueryReading.{ReadBy}
use Rattle.meaning.specs.Basics.{All}
use Rattle.meaning.specs.Page.{join}
use Rattle.meaning.specs.Record.{Record, path_size_lem, record_size_lem}
use Rattle.meaning.specs.Typing.{Found}
use Rattle.printing.specs.Sizes.{LastRecord, Marked, TypesAt, start_of}

module _ (f : ℕ → Found) where
  start_zero : (w : List ℕ) → start_of f w 0 ≡ 0
  unfolding start_of
  start_zero w = refl

  start_next : (w : List ℕ) (k : ℕ) → start_of f w (suc k) ≡ start_of f w k + record_size_lem f (drop (start_of f w k) w)
  unfolding start_of
  start_next w k = refl

  size_two : (w : List ℕ) → 2 ≤ record_size_lem f w
  unfolding record_size_lem path_size_lem
  size_two w = omega arith

  two_words : (r : Record) → ReadBy (record_size_lem f) r → 2 ≤ length r
  two_words r h = omega (arith, size_two (r ++ []), h [])

  -- behind a record
  shifted : (r : Record) → ReadBy (record_size_lem f) r → (w : List ℕ) (k : ℕ) → start_of f (r ++ w) (suc k) ≡ length r + start_of f w k
  shifted r h w zero =
      let z : drop (start_of f (r ++ w) 0) (r ++ w) ≡ r ++ w = ap (λ (i : ℕ). drop i (r ++ w)) (start_zero (r ++ w)) in
      let e : record_size_lem f (drop (start_of f (r ++ w) 0) (r ++ w)) ≡ length r = ap (record_size_lem f) z ∙ h w in
      omega (arith, start_next (r ++ w) 0, start_zero (r ++ w), e, start_zero w)
  shifted r h w (suc k) =
      let i = shifted r h w k in
      let d : drop (start_of f (r ++ w) (suc k)) (r ++ w) ≡ drop (start_of f w k) w = ap (λ (m : ℕ). drop m (r ++ w)) i ∙ drop-append-add r w (start_of f w k) in
      let e : record_size_lem f (drop (start_of f (r ++ w) (suc k)) (r ++ w)) ≡ record_size_lem f (drop (start_of f w k) w) = ap (record_size_lem f) d in
      omega (arith, start_next (r ++ w) (suc k), start_next w k, i, e)

  join_snoc : (ys : List Record) (b : Record) → join (ys ++ (b ∷ [])) ≡ join ys ++ b
  unfolding join
  join_snoc [] b = append-nil b
  join_snoc (y ∷ ys) b = ap (λ (l : List ℕ). y ++ l) (join_snoc ys b) ∙ sym (append_assoc y (join ys) b)

  -- a record more before words of which the last record begins at n
  one_more : (y : Record) → ReadBy (record_size_lem f) y → (v : List ℕ) (n : ℕ) → 0 < length v → ((k : ℕ) → start_of f v k < length v → length v ≤ start_of f v (suc k) → start_of f v k ≡ n)
      → (w : List ℕ) → w ≡ y ++ v → (k : ℕ) → start_of f w k < length w → length w ≤ start_of f w (suc k) → start_of f w k ≡ length y + n
  one_more y h v n p ih w e zero l g =
      let s : start_of f w 1 ≡ length y + start_of f v 0 = ap (λ (u : List ℕ). start_of f u 1) e ∙ shifted y h v 0 in
      let z : length w ≡ length y + length v = ap length e ∙ length-append y v in
      absurd (omega (arith, s, z, g, p, start_zero v))
  one_more y h v n p ih w e (suc k) l g =
      let s₁ : start_of f w (suc k) ≡ length y + start_of f v k = ap (λ (u : List ℕ). start_of f u (suc k)) e ∙ shifted y h v k in
      let s₂ : start_of f w (suc (suc k)) ≡ length y + start_of f v (suc k) = ap (λ (u : List ℕ). start_of f u (suc (suc k))) e ∙ shifted y h v (suc k) in
      let z : length w ≡ length y + length v = ap length e ∙ length-append y v in
      omega (arith, s₁, ih k (omega (arith, l, s₁, z)) (omega (arith, g, s₂, z)))

  last_start : (ys : List Record) (b : Record) → All (ReadBy (record_size_lem f)) (ys ++ (b ∷ [])) → (k : ℕ) → start_of f (join ys ++ b) k < length (join ys ++ b) → length (join ys ++ b) ≤ start_of f (join ys ++ b) (suc k) → start_of f (join ys ++ b) k ≡ length (join ys)
  unfolding join
  last_start [] b h zero l g = start_zero b
  last_start [] b h (suc k) l g =
      let e : start_of f b (suc k) ≡ length b + start_of f [] k = ap (λ (u : List ℕ). start_of f u (suc k)) (sym (append-nil b)) ∙ shifted b h.0 [] k in
      absurd (omega (arith, e, l))
  last_start (y ∷ ys) b h k l g =
      let r : ReadBy (record_size_lem f) b = (all_right (ReadBy (record_size_lem f)) ys (b ∷ []) h.1).0 in
      let p : 0 < length (join ys ++ b) = omega (arith, length-append (join ys) b, two_words b r) in
      one_more y h.0 (join ys ++ b) (length (join ys)) p (last_start ys b h.1) ((y ++ join ys) ++ b) (append_assoc y (join ys) b) k l g ∙ sym (length-append y (join ys))

  -- the bookmark that is taken of a page of records
  pub mark_is : (t page mark : List ℕ) (used r : ℕ) (ys : List Record) (b : Record) (behind : List ℕ) → TypesAt f t → All (ReadBy (record_size_lem f)) (ys ++ (b ∷ [])) → page ≡ join (ys ++ (b ∷ [])) ++ behind → used ≡ length (join (ys ++ (b ∷ []))) → Marked t page used mark r → take r mark ≡ b
  mark_is t page mark used r ys b behind a h e u m =
      let j : join (ys ++ (b ∷ [])) ≡ join ys ++ b = join_snoc ys b in
      let w : take used page ≡ join ys ++ b = ap (take used) e ∙ (take_front used (join (ys ++ (b ∷ []))) behind (sym u) ∙ j) in
      let z : used ≡ length (join ys ++ b) = u ∙ ap length j in
      let l : LastRecord t (join ys ++ b) (used - r) = subst (λ (v : List ℕ). LastRecord t v (used - r)) w m.last in
      let p : 0 < length (join ys ++ b) = omega (arith, length-append (join ys) b, two_words b (all_right (ReadBy (record_size_lem f)) ys (b ∷ []) h).0) in
      let (k, s, g) = l.is f a p in
      let at : used - r ≡ length (join ys) = s ∙ last_start ys b h k (omega (arith, s, l.inside p)) g in
      let whole : page ≡ join ys ++ (b ++ behind) = e ∙ (ap (λ (v : List ℕ). v ++ behind) j ∙ append_assoc (join ys) b behind) in
      let front : take (used - r) page ≡ join ys = ap (λ (i : ℕ). take i page) at ∙ (ap (take (length (join ys))) whole ∙ take-append_seam (join ys) (b ++ behind)) in
      let both : join ys ++ take r mark ≡ join ys ++ b = ap (λ (v : List ℕ). v ++ take r mark) (sym front) ∙ (sym m.copied ∙ w) in
      sym (drop-append_seam (join ys) (take r mark)) ∙ (ap (drop (length (join ys))) both ∙ drop-append_seam (join ys) b)
