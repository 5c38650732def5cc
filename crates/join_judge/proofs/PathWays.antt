-- The paths that words begin with: the ways through the code.
use mathlib.Core.Path.{◌∙◌, ◌≡◌, ap, refl, sym}
use mathlib.Core.List.{List, [], ◌++◌, ◌∷◌, append_assoc, append-nil}
use Prim.Native.Nat.{◌*◌, ◌+◌, ◌-◌, ◌<◌, ◌≤◌, suc, zero, ℕ}
use native.Mathlib.Omega.{arith}
use lib.ListN.{drop, get_or, length, length-append, length-drop, take, take-append-drop}
use lib.Seq.{drop-append_seam, drop_at, drop-cons, drop-drop, get_or-drop, take_at}
use Rattle.join_judge.specs.Paths.{Begun, HasPath, PathEnd, PathsAre, PathsEnd, PathsUpTo, SpanIs}
use Rattle.std.specs.Prelude.{IsSome, None, Option, Some}
use Rattle.meaning.proofs.Opened.{opened}
use Rattle.meaning.proofs.QueryReading.{PathsFew, few_left}
use Rattle.meaning.proofs.Size.{length_places}
use Rattle.meaning.specs.Basics.{each}
use Rattle.meaning.specs.Graph.{Walk, len}
use Rattle.meaning.specs.Record.{path_words_lem, places}
use Rattle.parts.proofs.Splits.{split_at}
use Rattle.path.proofs.Spelled.{len_spelled, places_spelled}
use Rattle.path.specs.Walks.{spelled}

-- ------------------------------------------------------------------ the words of a path
path_length : (p : Walk) → length (path_words_lem p) ≡ 2 * len p + 2
unfolding opened
path_length p = omega (arith, length_places p)

path_first : (p : Walk) (t : List ℕ) → get_or (path_words_lem p ++ t) 0 0 ≡ len p
unfolding opened
path_first p t = refl

-- the words at `at` tell a path of so many edges
module _ (words : List ℕ) (at : ℕ) where
  first_at : (p : Walk) (t : List ℕ) → drop at words ≡ path_words_lem p ++ t → get_or words at 0 ≡ len p
  first_at p t e = let z : at + 0 ≡ at = omega arith in sym (ap (λ (i : ℕ). get_or words i 0) z) ∙ (sym (get_or-drop at words 0 0) ∙ (ap (λ (w : List ℕ). get_or w 0 0) e ∙ path_first p t))

  spelled_at : (n : ℕ) → n ≡ get_or words at 0 → at + (2 * n + 2) ≤ length words → drop at words ≡ path_words_lem (spelled (drop (at + 1) words) 0 n) ++ drop (at + (2 * n + 2)) words
  unfolding path_words_lem
  spelled_at n e r =
      let w : List ℕ = drop (at + 1) words in
      let long : 2 * (0 + n) < length w = omega (arith, length-drop (at + 1) words) in
      let rest : drop (2 * n + 1) w ≡ drop (at + (2 * n + 2)) words = let i : at + 1 + (2 * n + 1) ≡ at + (2 * n + 2) = omega arith in drop-drop (2 * n + 1) (at + 1) words ∙ ap (λ (k : ℕ). drop k words) i in
      let all : w ≡ places (spelled w 0 n) ++ drop (at + (2 * n + 2)) words = sym (take-append-drop (2 * n + 1) w) ∙ (ap (λ (a : List ℕ). a ++ drop (2 * n + 1) w) (sym (places_spelled w 0 n long)) ∙ ap (λ (b : List ℕ). places (spelled w 0 n) ++ b) rest) in
      let s : drop at words ≡ n ∷ w = drop-cons words at 0 (omega arith) ∙ next n e in
      s ∙ (ap (λ (b : List ℕ). n ∷ b) all ∙ ap (λ (k : ℕ). k ∷ (places (spelled w 0 n) ++ drop (at + (2 * n + 2)) words)) (sym (len_spelled w 0 n)))
    where
      next : (n : ℕ) → n ≡ get_or words at 0 → get_or words at 0 ∷ drop (suc at) words ≡ n ∷ drop (at + 1) words
      next n e = let z : suc at ≡ at + 1 = omega arith in rw (← e, z) refl

  -- ---------------------------------------------------------------- one path
  pub no_word : length words ≤ at → PathEnd words at None
  no_word h = record { is = λ p t few e. omega (arith, ap length e, length-drop at words, length-append (path_words_lem p) t, path_length p) }

  pub too_many : (last : ℕ) → last ≡ get_or words at 0 → 200 < last → PathEnd words at None
  too_many last l h = record { is = λ p t few e. omega (arith, first_at p t e) }

  pub too_short : (last n : ℕ) → last ≡ get_or words at 0 → n ≡ 2 * last + 2 → length words < at + n → PathEnd words at None
  too_short last n l e h = record { is = λ p t few q. omega (arith, first_at p t q, path_length p, ap length q, length-drop at words, length-append (path_words_lem p) t) }

  pub path_told : (last n : ℕ) → last ≡ get_or words at 0 → last ≤ 200 → n ≡ 2 * last + 2 → at + n ≤ length words → PathEnd words at (Some (at + n))
  path_told last n l h e room = record {
    is = record {
      within = room;
      found = let p : Walk = spelled (drop (at + 1) words) 0 last in
          let z : at + (2 * last + 2) ≡ at + n = omega arith in
          (p, omega (arith, len_spelled (drop (at + 1) words) 0 last), spelled_at last l (omega arith) ∙ ap (λ (i : ℕ). path_words_lem p ++ drop i words) z, omega (arith, path_length p, len_spelled (drop (at + 1) words) 0 last));
      is = λ p t few q. omega (arith, first_at p t q, path_length p);
    };
  }

-- ------------------------------------------------------------------ paths one after another
each_append : (ps qs : List Walk) → each (ps ++ qs) path_words_lem ≡ each ps path_words_lem ++ each qs path_words_lem
unfolding each
each_append [] qs = refl
each_append (p ∷ ps) qs = ap (λ (w : List ℕ). path_words_lem p ++ w) (each_append ps qs) ∙ sym (append_assoc (path_words_lem p) (each ps path_words_lem) (each qs path_words_lem))

each_one : (p : Walk) → each (p ∷ []) path_words_lem ≡ path_words_lem p
unfolding each
each_one p = append-nil (path_words_lem p)

few_append : (ps qs : List Walk) → PathsFew 200 ps → PathsFew 200 qs → PathsFew 200 (ps ++ qs)
few_append [] qs h k = k
few_append (p ∷ ps) qs h k = (h.0, few_append ps qs h.1 k)

-- the first i of n paths are read, and end at `at`
pub record Reading (words : List ℕ) (n i at : ℕ) : Type 0 where
  pub within : i ≤ n
  pub room : at ≤ length words
  pub begun : Begun words i at
  pub ahead : (ps : List Walk) (t : List ℕ) → length ps ≡ n → PathsFew 200 ps → words ≡ each ps path_words_lem ++ t →
      (qs : List Walk) × (length qs ≡ n - i) × PathsFew 200 qs × (drop at words ≡ each qs path_words_lem ++ t) × (at + length (each qs path_words_lem) ≡ length (each ps path_words_lem))

pub reading_none : (words : List ℕ) (n : ℕ) → Reading words n 0 0
reading_none words n = record {
  within = omega arith;
  room = omega arith;
  begun = record { paths = []; paths_are = record { count = refl; few = tt; words_are = unfold each in refl; end_is = unfold each in refl } };
  ahead = λ ps t c few e. (ps, omega arith, few, e, omega arith);
}

module _ (words : List ℕ) (n i at : ℕ) (h : Reading words n i at) (l : i < n) where
  -- the next of the paths ahead
  next : (ps : List Walk) (t : List ℕ) → length ps ≡ n → PathsFew 200 ps → words ≡ each ps path_words_lem ++ t →
      (p : Walk) × (qs : List Walk) × (length qs ≡ n - (i + 1)) × (len p ≤ 200) × PathsFew 200 qs × (drop at words ≡ path_words_lem p ++ (each qs path_words_lem ++ t)) × (at + length (path_words_lem p) + length (each qs path_words_lem) ≡ length (each ps path_words_lem))
  unfolding each
  next ps t c few q = go (h.ahead ps t c few q)
    where
      go : (qs : List Walk) × (length qs ≡ n - i) × PathsFew 200 qs × (drop at words ≡ each qs path_words_lem ++ t) × (at + length (each qs path_words_lem) ≡ length (each ps path_words_lem)) →
          (p : Walk) × (qs : List Walk) × (length qs ≡ n - (i + 1)) × (len p ≤ 200) × PathsFew 200 qs × (drop at words ≡ path_words_lem p ++ (each qs path_words_lem ++ t)) × (at + length (path_words_lem p) + length (each qs path_words_lem) ≡ length (each ps path_words_lem))
      go ([], c, f, d, m) = absurd (omega arith)
      go (p ∷ qs, c, f, d, m) = (p, qs, omega arith, f.0, f.1, d ∙ append_assoc (path_words_lem p) (each qs path_words_lem) t, omega (arith, length-append (path_words_lem p) (each qs path_words_lem)))

  pub reading_more : (r : ℕ) → PathEnd words at (Some r) → Reading words n (i + 1) r
  reading_more r e = record {
    within = omega arith;
    room = e.is.within;
    begun =
        let (p, few, d, z) = e.is.found in
        let b = h.begun.paths_are in
        let ps : List Walk = h.begun.paths in
        let both : each (ps ++ p ∷ []) path_words_lem ≡ each ps path_words_lem ++ path_words_lem p = each_append ps (p ∷ []) ∙ ap (λ (w : List ℕ). each ps path_words_lem ++ w) (each_one p) in
        record {
          paths = ps ++ p ∷ [];
          paths_are = record {
            count = omega (arith, length-append ps (p ∷ []), b.count);
            few = few_append ps (p ∷ []) b.few (few, tt);
            words_are = b.words_are ∙ (ap (λ (w : List ℕ). each ps path_words_lem ++ w) d ∙ (sym (append_assoc (each ps path_words_lem) (path_words_lem p) (drop r words)) ∙ ap (λ (w : List ℕ). w ++ drop r words) (sym both)));
            end_is = omega (arith, ap length both, length-append (each ps path_words_lem) (path_words_lem p), b.end_is);
          };
        };
    ahead = λ ps t c few q.
        let (p, qs, a, g, f, d, m) = next ps t c few q in
        let z : r ≡ at + length (path_words_lem p) = e.is.is p (each qs path_words_lem ++ t) g d in
        (qs, a, f, ap (λ (k : ℕ). drop k words) z ∙ (sym (drop-drop (length (path_words_lem p)) at words) ∙ (ap (drop (length (path_words_lem p))) d ∙ drop-append_seam (path_words_lem p) (each qs path_words_lem ++ t))), omega arith);
  }

  -- the words have no further path
  pub reading_out : PathEnd words at None → PathsEnd words n None
  reading_out e = record { is = λ ps t c few q. let (p, qs, a, g, f, d, m) = next ps t c few q in e.is p (each qs path_words_lem ++ t) g d }

pub reading_all : (words : List ℕ) (n i at : ℕ) → Reading words n i at → n ≤ i → PathsEnd words n (Some at)
unfolding each
reading_all words n i at h l = record {
  is = record {
    begun = let z : i ≡ n = omega (arith, h.within) in rw (← z) h.begun;
    is = λ ps t c few e. go ps (h.ahead ps t c few e);
  };
}
  where
    go : (ps : List Walk) {t : List ℕ} → (qs : List Walk) × (length qs ≡ n - i) × PathsFew 200 qs × (drop at words ≡ each qs path_words_lem ++ t) × (at + length (each qs path_words_lem) ≡ length (each ps path_words_lem)) → at ≡ length (each ps path_words_lem)
    go ps ([], c, f, d, m) = omega arith
    go ps (q ∷ qs, c, f, d, m) = absurd (omega arith)

-- where words have a path of number i, they have so many
cut : (ps : List Walk) (i : ℕ) → i ≤ length ps → (qs : List Walk) × (rs : List Walk) × (ps ≡ qs ++ rs) × (length qs ≡ i)
cut ps zero h = ([], ps, refl, refl)
cut [] (suc i) h = absurd (omega arith)
cut (p ∷ ps) (suc i) h = let (qs, rs, e, c) = cut ps i (omega arith) in (p ∷ qs, rs, ap (λ (k : List Walk). p ∷ k) e, ap suc c)

pub paths_there : {words : List ℕ} {i m : ℕ} {r : Option ℕ} → PathsEnd words m r → HasPath words i → m ≤ i + 1 → IsSome r
paths_there {words} {i} {m} {r} e h l = go r e
  where
    go : (r : Option ℕ) → PathsEnd words m r → IsSome r
    go None e =
        let b = h.has.begun.paths_are in
        let (qs, rs, q, c) = cut h.has.begun.paths m (omega (arith, b.count, h.more)) in
        absurd (e.is qs (each rs path_words_lem ++ drop h.has.end words) c (few_left 200 qs rs (rw q at b.few))
        (b.words_are ∙ (ap (λ (z : List Walk). each z path_words_lem ++ drop h.has.end words) q ∙ (ap (λ (z : List ℕ). z ++ drop h.has.end words) (each_append qs rs) ∙ append_assoc (each qs path_words_lem) (each rs path_words_lem) (drop h.has.end words)))))
    go (Some x) e = refl

-- ------------------------------------------------------------------ the path of number i
module _ (words : List ℕ) (i from to : ℕ) (before : PathsUpTo words i from) (after : PathsUpTo words (i + 1) to) where
  -- where it ends, and that it is the words between
  between : (n end : ℕ) (ps₀ : List Walk) (p : Walk) (ps₁ : List Walk) → PathsAre words n end (ps₀ ++ p ∷ ps₁) → length ps₀ ≡ i →
      (drop from words ≡ path_words_lem p ++ (each ps₁ path_words_lem ++ drop end words)) × (to ≡ from + length (path_words_lem p)) × (to ≤ end) × (end ≤ length words)
  unfolding each
  between n end ps₀ p ps₁ h c =
      let rest : List ℕ = each ps₁ path_words_lem ++ drop end words in
      let all : each (ps₀ ++ p ∷ ps₁) path_words_lem ≡ each ps₀ path_words_lem ++ (path_words_lem p ++ each ps₁ path_words_lem) = each_append ps₀ (p ∷ ps₁) in
      let w : words ≡ each ps₀ path_words_lem ++ (path_words_lem p ++ rest) = h.words_are ∙ (ap (λ (a : List ℕ). a ++ drop end words) all
      ∙ (append_assoc (each ps₀ path_words_lem) (path_words_lem p ++ each ps₁ path_words_lem) (drop end words) ∙ ap (λ (a : List ℕ). each ps₀ path_words_lem ++ a) (append_assoc (path_words_lem p) (each ps₁ path_words_lem) (drop end words)))) in
      let one : each (ps₀ ++ p ∷ []) path_words_lem ≡ each ps₀ path_words_lem ++ path_words_lem p = each_append ps₀ (p ∷ []) ∙ ap (λ (a : List ℕ). each ps₀ path_words_lem ++ a) (append-nil (path_words_lem p)) in
      let w₁ : words ≡ each (ps₀ ++ p ∷ []) path_words_lem ++ rest = w ∙ (sym (append_assoc (each ps₀ path_words_lem) (path_words_lem p) rest) ∙ ap (λ (a : List ℕ). a ++ rest) (sym one)) in
      let few₀ : PathsFew 200 ps₀ = few_left 200 ps₀ (p ∷ ps₁) h.few in
      let a : from ≡ length (each ps₀ path_words_lem) = before.is ps₀ (path_words_lem p ++ rest) c few₀ w in
      let few₁ : PathsFew 200 (ps₀ ++ p ∷ []) = few_left 200 (ps₀ ++ p ∷ []) ps₁ (rw (append_assoc ps₀ (p ∷ []) ps₁) h.few) in
      let b : to ≡ length (each (ps₀ ++ p ∷ []) path_words_lem) = after.is (ps₀ ++ p ∷ []) rest (omega (arith, length-append ps₀ (p ∷ []))) few₁ w₁ in (
        ap (drop from) w ∙ drop_at (each ps₀ path_words_lem) (path_words_lem p ++ rest) from (sym a),
        omega (arith, ap length one, length-append (each ps₀ path_words_lem) (path_words_lem p)),
        omega (arith, h.end_is, ap length all, ap length one, length-append (each ps₀ path_words_lem) (path_words_lem p ++ each ps₁ path_words_lem), length-append (path_words_lem p) (each ps₁ path_words_lem), length-append (each ps₀ path_words_lem) (path_words_lem p)),
        omega (arith, h.end_is, ap length h.words_are, length-append (each (ps₀ ++ p ∷ ps₁) path_words_lem) (drop end words)),
      )

  span_of : HasPath words i → SpanIs words i from to
  span_of h =
      let b = h.has.begun.paths_are in
      let (ps₀, p, ps₁, e, c) = split_at h.has.begun.paths i (omega (arith, b.count, h.more)) in
      let z = between h.count h.has.end ps₀ p ps₁ (rw (← e) b) c in
      record {
        low = omega (arith, z.1);
        high = omega (arith, z.2, z.3);
        within = within;
        is = λ n end ps₀ p ps₁ h c. let z = between n end ps₀ p ps₁ h c in
            ap (take (to - from)) z.0 ∙ take_at (path_words_lem p) (each ps₁ path_words_lem ++ drop end words) (to - from) (omega (arith, z.1));
      }
    where
      within : (n end : ℕ) (ps : List Walk) → PathsAre words n end ps → i < n → to ≤ end
      within n end ps h k = let (ps₀, p, ps₁, e, c) = split_at ps i (omega (arith, h.count)) in (between n end ps₀ p ps₁ (rw (← e) h) c).2

pub span_is : {words : List ℕ} {i : ℕ} {before after : Option ℕ} {from to : ℕ} → PathsEnd words i before → PathsEnd words (i + 1) after → before ≡ Some from → after ≡ Some to → HasPath words i → SpanIs words i from to
span_is {words} {i} {before} {after} {from} {to} b a e q h = let x : PathsEnd words i (Some from) = rw (← e) b in let y : PathsEnd words (i + 1) (Some to) = rw (← q) a in span_of words i from to x.is y.is h
