-- The named paths behind the values: the ways through the code.
use mathlib.Core.Path.{◌∙◌, ◌≡◌, ap, refl, sym}
use mathlib.Core.List.{List, [], ◌++◌, ◌∷◌, append_assoc, append-nil}
use mathlib.Core.Bool.{Bool, false, true}
use Prim.Native.Nat.{◌+◌, ◌-◌, ◌<◌, ◌≤◌, suc, ℕ}
use native.Mathlib.Omega.{arith}
use lib.Dec.{eqb}
use lib.ListN.{drop, drop_of_length-le, length, length-append, length-drop, take}
use lib.Seq.{drop-append_seam, drop-drop, take-length}
use borrow.Author.Tests.{eqb-false, eqb-true}
use Rattle.join_judge.specs.Names.{AfterName, AfterNamed, AfterNames, AreNames, Stand}
use Rattle.join_judge.specs.Paths.{HasPath, HasPaths, PathsAre, SpanIs}
use Rattle.std.proofs.lemmas.Bool.Decides.{Decides-eqb}
use Rattle.std.proofs.lemmas.Slice.Eq.{starts_is}
use Rattle.std.specs.Cmp.Lexicographic.{pointwise}
use Rattle.std.specs.Prelude.{None, Option, Some}
use Rattle.joins.specs.Flat.{name_words, path_named}
use Rattle.meaning.proofs.Logic.{no_false, no_true}
use Rattle.meaning.specs.Basics.{up_from}
use Rattle.meaning.specs.Graph.{Walk}
use Rattle.meaning.specs.QueryRecord.{query_slot_words, query_value_words, query_variable_words}
use Rattle.meaning.specs.QueryWords.{Part}
use Rattle.meaning.specs.Record.{path_words_lem}
use Rattle.parts.proofs.NameLaws.{named_nothing, named_path}
use Rattle.parts.specs.Shapes.{NamedPart, ShapeIs}
use Rattle.parts.specs.declared.shape.Shape.{Shape}

-- ------------------------------------------------------------------ one path
module _ {words : List ℕ} {i from to : ℕ} (s : SpanIs words i from to) where
  moved : (at : ℕ) (r : Option ℕ) → Stand words at (take (to - from) (drop from words)) r → (n e : ℕ) (ps₀ : List Walk) (p : Walk) (ps₁ : List Walk) → PathsAre words n e (ps₀ ++ p ∷ ps₁) → length ps₀ ≡ i → Stand words at (path_words_lem p) r
  moved at r h n e ps₀ p ps₁ k c = rw (← s.is n e ps₀ p ps₁ k c) h

  module _ (at : ℕ) (b : Bool) (lent : b ≡ pointwise eqb (take (to - from) (drop from words)) (take (length (take (to - from) (drop from words))) (take (length words - at) (drop at words)))) where
    b_is : b ≡ pointwise eqb (take (to - from) (drop from words)) (take (length (take (to - from) (drop from words))) (drop at words))
    b_is =
        let rest : take (length words - at) (drop at words) ≡ drop at words = ap (λ (k : ℕ). take k (drop at words)) (sym (length-drop at words)) ∙ take-length (drop at words) in
        lent ∙ ap (λ (w : List ℕ). pointwise eqb (take (to - from) (drop from words)) (take (length (take (to - from) (drop from words))) w)) rest

    pub name_stands : b ≡ true → at ≤ length words → AfterName words i at (Some (at + length (take (to - from) (drop from words))))
    name_stands y room =
        let path : List ℕ = take (to - from) (drop from words) in
        let e : drop at words ≡ path ++ drop (length path) (drop at words) = (starts_is Decides-eqb (drop at words) path b b_is).0 y in
        record {
          high = omega (arith, ap length e, length-append path (drop (length path) (drop at words)), length-drop at words);
          is = moved at (Some (at + length path)) (e ∙ ap (λ (w : List ℕ). path ++ w) (drop-drop (length path) at words));
        }

    pub name_differs : b ≡ false → AfterName words i at None
    name_differs n = record { high = tt; is = moved at None (λ t e. no_true (sym ((starts_is Decides-eqb (drop at words) (take (to - from) (drop from words)) b b_is).1 t e) ∙ n)) }

-- ------------------------------------------------------------------ the path that x names
pub has_path : (words : List ℕ) (n i : ℕ) → HasPaths words n → i < n → HasPath words i
has_path words n i h l = record { count = n; more = l; has = h }

pub named_below : {shape : Shape} {x i : ℕ} → NamedPart shape x shape.parts (Some i) → i < shape.parts
named_below {shape} {x} {i} f = (f.some_is i refl).0

module _ (words : List ℕ) (shape : Shape) (x at : ℕ) (low : 1 ≤ x) where
  pub named_stands : (i : ℕ) (r : Option ℕ) → NamedPart shape x shape.parts (Some i) → AfterName words i at r → AfterNamed words shape x at r
  unfolding query_slot_words query_value_words
  named_stands i r f h = record {
    high = h.high;
    is = λ end ps_l ps s p.
        let (ps₀, q, ps₁, e, c, z) = named_path x low shape i f ps_l ps s (p.count ∙ s.parts_is) in
        rw z (h.is shape.parts end ps₀ q ps₁ (rw (← e) p) c);
  }

  pub none_named : at ≤ length words → NamedPart shape x shape.parts None → AfterNamed words shape x at (Some at)
  unfolding query_slot_words
  none_named r f = record { high = r; is = λ end ps_l ps s p. rw (named_nothing x low shape f ps_l ps s (p.count ∙ s.parts_is)) refl }

-- ------------------------------------------------------------------ all names
-- those from x on
abbrev pub names_from : ℕ → List ℕ
names_from x = up_from (13 - x) x

-- what stands from `from` on are the named paths just where what stands at `at` are those from x on
pub record Naming (words : List ℕ) (shape : Shape) (from at x : ℕ) : Type 0 where
  pub low : 9 ≤ x
  pub high : x ≤ 13
  pub room : at ≤ length words
  pub to_rest : (end : ℕ) (l : List Part) (ps : List Walk) → ShapeIs l shape → PathsAre words shape.parts end ps → (t : List ℕ) → drop from words ≡ name_words l ps ++ t → drop at words ≡ query_variable_words (names_from x) (path_named l ps) ++ t
  pub from_rest : (end : ℕ) (l : List Part) (ps : List Walk) → ShapeIs l shape → PathsAre words shape.parts end ps → (t : List ℕ) → drop at words ≡ query_variable_words (names_from x) (path_named l ps) ++ t → drop from words ≡ name_words l ps ++ t

pub naming_none : (words : List ℕ) (shape : Shape) (from : ℕ) → from ≤ length words → Naming words shape from from 9
unfolding name_words up_from
naming_none words shape from h = record { low = omega arith; high = omega arith; room = h; to_rest = λ end l ps s p t e. e; from_rest = λ end l ps s p t e. e }

names_next : (x : ℕ) → x < 13 → names_from x ≡ x ∷ names_from (x + 1)
unfolding up_from
names_next x h = let e : 13 - x ≡ suc (13 - (x + 1)) = omega arith in let z : suc x ≡ x + 1 = omega arith in rw e (ap (λ (y : ℕ). x ∷ up_from (13 - (x + 1)) y) z)

module _ (words : List ℕ) (shape : Shape) (from at x : ℕ) (h : Naming words shape from at x) (l : x < 13) where
  first : (q : List Part) (ps : List Walk) (t : List ℕ) → query_variable_words (names_from x) (path_named q ps) ++ t ≡ query_slot_words (path_named q ps x) ++ (query_variable_words (names_from (x + 1)) (path_named q ps) ++ t)
  unfolding query_variable_words
  first q ps t = rw (names_next x l) (append_assoc (query_slot_words (path_named q ps x)) (query_variable_words (names_from (x + 1)) (path_named q ps)) t)

  pub naming_more : (to : ℕ) → AfterNamed words shape x at (Some to) → Naming words shape from to (x + 1)
  naming_more to n = record {
    low = omega (arith, h.low);
    high = omega arith;
    room = n.high;
    to_rest = λ end q ps s p t e. same_rest (query_slot_words (path_named q ps x)) (drop to words) (query_variable_words (names_from (x + 1)) (path_named q ps) ++ t) (sym (n.is end q ps s p) ∙ (h.to_rest end q ps s p t e ∙ first q ps t));
    from_rest = λ end q ps s p t e. h.from_rest end q ps s p t (n.is end q ps s p ∙ (ap (λ (w : List ℕ). query_slot_words (path_named q ps x) ++ w) e ∙ sym (first q ps t)));
  }
    where
      same_rest : (s t u : List ℕ) → s ++ t ≡ s ++ u → t ≡ u
      same_rest s t u e = sym (drop-append_seam s t) ∙ (ap (drop (length s)) e ∙ drop-append_seam s u)

  pub naming_out : AfterNamed words shape x at None → AfterNames words shape from None
  naming_out n = record {
    high = tt;
    is = λ end q ps s p t e. n.is end q ps s p (query_variable_words (names_from (x + 1)) (path_named q ps) ++ t) (h.to_rest end q ps s p t e ∙ first q ps t);
  }

pub naming_all : (words : List ℕ) (shape : Shape) (from at x : ℕ) → Naming words shape from at x → 13 ≤ x → AfterNames words shape from (Some at)
unfolding query_variable_words up_from
naming_all words shape from at x h l = let z : 13 - x ≡ 0 = omega arith in record { high = h.room; is = λ end q ps s p. h.from_rest end q ps s p (drop at words) (rw z refl) }

-- ------------------------------------------------------------------ and nothing behind them
module _ (words : List ℕ) (shape : Shape) (from : ℕ) where
  pub names_behind : (at : ℕ) → AfterNames words shape from (Some at) → AreNames words shape from (eqb at (length words))
  names_behind at n = record {
    yes_is = λ e end q ps s p. n.is end q ps s p ∙ (ap (λ (w : List ℕ). name_words q ps ++ w) (drop_of_length-le words {i = at} (omega (arith, eqb-true at (length words) e))) ∙ append-nil (name_words q ps));
    no_is = λ e end q ps s p k. eqb-false at (length words) e (omega (arith, n.high, ap length (sym k ∙ n.is end q ps s p), length-append (name_words q ps) (drop at words), length-drop at words));
  }

  pub names_differ : AfterNames words shape from None → AreNames words shape from false
  names_differ n = record { yes_is = λ e. no_false e; no_is = λ e end q ps s p k. n.is end q ps s p [] (k ∙ sym (append-nil (name_words q ps))) }
