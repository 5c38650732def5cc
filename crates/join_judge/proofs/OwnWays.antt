-- The own words of one part: the ways through the code.
use mathlib.Core.Path.{◌∙◌, ◌≡◌, ap, refl, sym}
use mathlib.Core.List.{List, [], ◌++◌, append_assoc, append-nil}
use mathlib.Core.Option.{Option, some}
use mathlib.Core.Bool.{Bool}
use Prim.Native.Nat.{◌+◌, ◌-◌, ◌<◌, ◌≤◌, ℕ}
use native.Mathlib.Omega.{arith}
use lib.ListN.{drop, get_or, length, length-append, length-drop, take}
use lib.Seq.{length-take-le, take_at}
use Rattle.compiled.specs.Parts.{pattern_in_lem}
use Rattle.join_judge.proofs.ValueWays.{view_here, view_within}
use Rattle.join_judge.specs.Own.{Appended, Fits, OwnWritten, SomeValued, ValueAppended, Valued}
use Rattle.joins.proofs.Projected.{slot_split}
use Rattle.joins.proofs.Woven.{slots_known}
use Rattle.joins.specs.Projected.{project, project_by}
use Rattle.matcher.proofs.Places.{view_at}
use Rattle.matcher.specs.Records.{after_slot, after_slots}
use Rattle.meaning.proofs.Eight.{from, from_end, from_next, from_one}
use Rattle.std.specs.Prelude.{if◌then◌else◌}
use Rattle.meaning.specs.Basics.{eight}
use Rattle.meaning.specs.Pattern.{in_var}
use Rattle.meaning.specs.Typing.{Found, type_of}
use Rattle.parts.proofs.TypeLaws.{type_unused, type_used}
use Rattle.records.specs.Slots.{SlotEnd}
use Rattle.typecode.specs.Codes.{code_of}

-- ------------------------------------------------------------------ words behind words
pub appended : (own words own' : List ℕ) (n b c : ℕ) → Fits own words n b c → own' ≡ take n own ++ take (c - b) (drop b words) ++ drop (n + length (take (c - b) (drop b words))) own → Appended own words n b c own' (n + (c - b))
appended own words own' n b c f e =
    let s : List ℕ = take (c - b) (drop b words) in
    let long : length s ≡ c - b = length-take-le (c - b) (drop b words) (omega (arith, length-drop b words, f.high)) in
    let first : length (take n own) ≡ n = length-take-le n own (omega (arith, f.room)) in
    record {
      end_is = refl;
      is = ap (take (n + (c - b))) e ∙ take_at (take n own ++ s) (drop (n + length s) own) (n + (c - b)) (omega (arith, length-append (take n own) s));
    }

module _ (plan own words : List ℕ) (x n b c t : ℕ) (t_is : t ≡ code_of (type_of (pattern_in_lem plan) x)) where
  pub value_left_out : t ≡ 0 → ValueAppended plan own words x n b c own n
  value_left_out e = record { high = omega arith; is = rw (type_unused (pattern_in_lem plan) x t t_is e) (sym (append-nil (take n own))) }

  pub value_appended : (own' : List ℕ) (r : ℕ) → (t ≡ 0 → ⊥) → Appended own words n b c own' r → ValueAppended plan own words x n b c own' r
  value_appended own' r e h = record { high = omega (arith, h.end_is); is = rw (type_used (pattern_in_lem plan) x t t_is e) h.is }

-- ------------------------------------------------------------------ all values
-- the words of the path, front, and the values of the variables below x are written; the others stand from place on
pub record Writing (plan words types : List ℕ) (start : ℕ) (front own : List ℕ) (n place x : ℕ) : Type 0 where
  pub low : 1 ≤ x
  pub high : x ≤ 9
  pub within : place ≤ length words
  pub behind : n ≤ place
  pub long : length own ≡ 20000
  pub ends : (f : ℕ → Found) (v : Valued words types start f) → after_slots (from x) f (some (drop place words)) ≡ some v.rest
  pub is : (f : ℕ → Found) → Valued words types start f → take n own ++ project (in_var (pattern_in_lem plan)) f (from x) (drop place words) ≡ front ++ project (in_var (pattern_in_lem plan)) f eight (drop start words)

module _ (plan words types : List ℕ) (start : ℕ) (few_words : length words ≤ 20000) where
  pub path_fits : (own : List ℕ) (b c : ℕ) → length own ≡ 20000 → b ≤ c → c ≤ start → start ≤ length words → Fits own words 0 b c
  path_fits own b c e l k m = record { low = l; high = omega arith; room = omega arith; few = omega arith }

  pub writing_none : (own own' : List ℕ) (b c r : ℕ) → length own ≡ 20000 → length own' ≡ length own → b ≤ c → c ≤ start → start ≤ length words → Appended own words 0 b c own' r → Writing plan words types start (take r own') own' r start 1
  writing_none own own' b c r e e' l k m h = record {
    low = omega arith;
    high = omega arith;
    within = m;
    behind = omega (arith, h.end_is);
    long = omega arith;
    ends = λ f v. ap (λ (xs : List ℕ). after_slots xs f (some (drop start words))) (sym from_one) ∙ v.ends;
    is = λ f v. ap (λ (xs : List ℕ). take r own' ++ project (in_var (pattern_in_lem plan)) f xs (drop start words)) (sym from_one);
  }

  module _ (front own : List ℕ) (n place x to : ℕ) (h : Writing plan words types start front own n place x) (l : x < 9) (e : SlotEnd words (get_or types x 0) place to) where
    -- the value of x stands from place to `to`
    step : (f : ℕ → Found) → Valued words types start f → (to ≤ length words) × (place ≤ to) × (after_slot (f x) (some (drop place words)) ≡ some (drop to words))
    unfolding after_slots
    step f v =
        let o : Option (List ℕ) = after_slot (f x) (some (drop place words)) in
        let s : after_slots (from (x + 1)) f o ≡ some v.rest = sym (ap (λ (xs : List ℕ). after_slots xs f (some (drop place words))) (from_next x h.low l)) ∙ h.ends f v in
        let (a, k) = slots_known (from (x + 1)) f o v.rest s in
        let view : view_at words to ≡ some a = e.is (f x) (v.types_are x h.low l) ∙ (ap (after_slot (f x)) (view_here words place h.within) ∙ k) in
        let (m, q) = view_within words to a view in
        let (A, r) = slot_split (f x) (drop place words) a k in
        (m, omega (arith, ap length r, length-append A a, length-drop place words, length-drop to words, ap length q, h.within), k ∙ ap some q)

    pub value_fits : SomeValued words types start → Fits own words n place to
    value_fits s = let (m, p, k) = step s.found s.valued in record { low = p; high = m; room = omega (arith, h.behind, h.long); few = omega (arith, h.long) }

    pub writing_more : SomeValued words types start → (own' : List ℕ) (r : ℕ) → length own' ≡ length own → ValueAppended plan own words x n place to own' r → Writing plan words types start front own' r to (x + 1)
    unfolding after_slots project project_by
    writing_more s own' r same a =
        let (m, p, k) = step s.found s.valued in
        record {
          low = omega arith;
          high = omega arith;
          within = m;
          behind = omega (arith, a.high, h.behind);
          long = omega (arith, h.long);
          ends = λ f v. sym (ap (after_slots (from (x + 1)) f) (step f v).2) ∙ (sym (ap (λ (xs : List ℕ). after_slots xs f (some (drop place words))) (from_next x h.low l)) ∙ h.ends f v);
          is = λ f v.
              let u : ℕ → Bool = in_var (pattern_in_lem plan) in
              let go : List ℕ → List ℕ = project u f (from (x + 1)) in
              let (m, p, k) = step f v in
              let long : length (drop place words) - length (drop to words) ≡ to - place = omega (arith, length-drop place words, length-drop to words) in
              ap (λ (w : List ℕ). w ++ go (drop to words)) a.is
              ∙ (append_assoc (take n own) (if u x then take (to - place) (drop place words) else []) (go (drop to words))
              ∙ (ap (λ (w : List ℕ). take n own ++ w) (ap (λ (j : ℕ). (if u x then take j (drop place words) else []) ++ go (drop to words)) (sym long)
              ∙ (sym (ap (λ (o : Option (List ℕ)). project_by (u x) (drop place words) o go) k)
              ∙ sym (ap (λ (xs : List ℕ). project u f xs (drop place words)) (from_next x h.low l))))
              ∙ h.is f v));
        }

  pub writing_all : (own₀ own₁ own : List ℕ) (b c n₁ n place x : ℕ) → Appended own₀ words 0 b c own₁ n₁ → Writing plan words types start (take n₁ own₁) own n place x → 9 ≤ x → OwnWritten plan words types b c start own n
  unfolding project
  writing_all own₀ own₁ own b c n₁ n place x a h l = record {
    high = omega (arith, h.behind, h.within, h.long);
    is = λ f v. sym (append-nil (take n own)) ∙ (ap (λ (xs : List ℕ). take n own ++ project (in_var (pattern_in_lem plan)) f xs (drop place words)) (sym (from_end x l h.high)) ∙ (h.is f v ∙ ap (λ (w : List ℕ). w ++ project (in_var (pattern_in_lem plan)) f eight (drop start words)) a.is));
  }
