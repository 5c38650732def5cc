-- The ways through the check of the path names.
use mathlib.Core.Path.{◌∙◌, ◌≡◌, ap, ap₂, refl, sym}
use mathlib.Core.List.{List, [], ◌∷◌}
use mathlib.Core.Bool.{Bool, false, true, not, ◌&&◌, ◌||◌}
use Prim.Native.Nat.{ℕ, suc, ◌+◌, ◌<◌, ◌≤◌}
use native.Mathlib.Numerals.{add-one}
use native.Mathlib.Omega.{arith}
use lib.Dec.{eqb}
use lib.ListN.{drop, length}
use lib.Seq.{drop-drop}
use borrow.Author.Tests.{eq-eqb, ne_eqb}
use Rattle.meaning.specs.QueryWords.{Part, bad_names_lem, is_name_lem, name_used_lem, parts_of}
use Rattle.query.proofs.Behind.{Behind, behind_all, behind_more}
use Rattle.query.proofs.PartLaws.{from_part}
use Rattle.query.specs.Names.{bad_first_name}
use Rattle.query.specs.Parts.{PartIs, PartsCounted}
use Rattle.query.specs.declared.layout.Part.{Part as PartRead}

-- ------------------------------------------------------------------ name_used
module _ (query : List ℕ) (name i j n : ℕ) (b : Behind (name_used_lem name) query i j) (c : PartsCounted query n) where
  module _ (part : PartRead) (h : j < n) (p : PartIs query j part) where
    name_at : name_used_lem name (drop j (parts_of query)) ≡ (eqb name part.name || name_used_lem name (drop (suc j) (parts_of query)))
    unfolding name_used_lem
    name_at = ap (name_used_lem name) (from_part query j part p (omega (arith, c.is)))

    pub used_here : name ≡ part.name → true ≡ name_used_lem name (drop i (parts_of query))
    used_here e = sym (b.is ∙ name_at ∙ ap (λ (t : Bool). t || name_used_lem name (drop (suc j) (parts_of query))) (eq-eqb name part.name e))

    pub used_later : (name ≡ part.name → ⊥) → Behind (name_used_lem name) query i (j + 1)
    used_later e = behind_more (name_used_lem name) query i j n b c h (name_at ∙ ap (λ (t : Bool). t || name_used_lem name (drop (suc j) (parts_of query))) (ne_eqb name part.name e))

  pub used_nowhere : n ≤ j → false ≡ name_used_lem name (drop i (parts_of query))
  unfolding name_used_lem
  used_nowhere h = sym (behind_all (name_used_lem name) query i j n b c h)

-- ------------------------------------------------------------------ bad_name
module _ (query : List ℕ) (i : ℕ) (part : PartRead) (p : PartIs query i part) (h : i < length (parts_of query)) where
  first : (t : Bool) → eqb part.name 0 ≡ t → bad_first_name (drop i (parts_of query)) ≡ (not t && (not (is_name_lem part.name) || name_used_lem part.name (drop (suc i) (parts_of query))))
  unfolding bad_first_name
  first t e = ap bad_first_name (from_part query i part p h) ∙ ap (λ (b : Bool). not b && (not (is_name_lem part.name) || name_used_lem part.name (drop (suc i) (parts_of query)))) e

  pub name_none : part.name ≡ 0 → false ≡ bad_first_name (drop i (parts_of query))
  name_none e = sym (first true (eq-eqb part.name 0 e))

  module _ (some_name : part.name ≡ 0 → ⊥) (b : Bool) (told : b ≡ is_name_lem part.name) where
    other : bad_first_name (drop i (parts_of query)) ≡ (not b || name_used_lem part.name (drop (suc i) (parts_of query)))
    other = first false (ne_eqb part.name 0 some_name) ∙ ap (λ (t : Bool). not t || name_used_lem part.name (drop (suc i) (parts_of query))) (sym told)

    pub name_once : b ≡ true → (r : Bool) → r ≡ name_used_lem part.name (drop (i + 1) (parts_of query)) → r ≡ bad_first_name (drop i (parts_of query))
    name_once e r q = q ∙ ap (λ (k : ℕ). name_used_lem part.name (drop k (parts_of query))) (add-one i) ∙ sym (other ∙ ap (λ (t : Bool). not t || name_used_lem part.name (drop (suc i) (parts_of query))) e)

    pub name_outside : b ≡ false → true ≡ bad_first_name (drop i (parts_of query))
    name_outside e = sym (other ∙ ap (λ (t : Bool). not t || name_used_lem part.name (drop (suc i) (parts_of query))) e)

-- ------------------------------------------------------------------ bad_names
names_first : (l : List Part) → bad_names_lem l ≡ (bad_first_name l || bad_names_lem (drop 1 l))
unfolding bad_names_lem bad_first_name
names_first [] = refl
names_first (a ∷ l) = refl

module _ (query : List ℕ) (i n : ℕ) (b : Behind bad_names_lem query 0 i) (c : PartsCounted query n) where
  module _ (h : i < n) (t : Bool) (told : t ≡ bad_first_name (drop i (parts_of query))) where
    names_at : bad_names_lem (drop i (parts_of query)) ≡ (t || bad_names_lem (drop (suc i) (parts_of query)))
    names_at = names_first (drop i (parts_of query)) ∙ ap₂ ◌||◌ (sym told) (ap bad_names_lem (drop-drop 1 i (parts_of query) ∙ ap (λ (k : ℕ). drop k (parts_of query)) (add-one i)))

    pub names_here : t ≡ true → true ≡ bad_names_lem (parts_of query)
    names_here e = sym (b.is ∙ names_at ∙ ap (λ (u : Bool). u || bad_names_lem (drop (suc i) (parts_of query))) e)

    pub names_later : t ≡ false → Behind bad_names_lem query 0 (i + 1)
    names_later e = behind_more bad_names_lem query 0 i n b c h (names_at ∙ ap (λ (u : Bool). u || bad_names_lem (drop (suc i) (parts_of query))) e)

  pub names_right : n ≤ i → false ≡ bad_names_lem (parts_of query)
  unfolding bad_names_lem
  names_right h = sym (behind_all bad_names_lem query 0 i n b c h)
