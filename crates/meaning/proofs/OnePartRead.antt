-- One part without a name: its types are the base's 48 words and 24 zeros, and its records are read off words as the base's are.
use mathlib.Core.Path.{◌∙◌, ◌≡◌, ap, refl, sym}
use mathlib.Core.List.{List, [], ◌++◌, ◌∷◌}
use mathlib.Core.Bool.{false}
use Prim.Native.Nat.{◌+◌, suc, zero, ℕ}
use native.Mathlib.Omega.{arith}
use lib.ListN.{drop, replicate, take}
use Rattle.meaning.proofs.Accepted.{Accepted}
use Rattle.meaning.proofs.Lists.{each_append}
use Rattle.meaning.proofs.Logic.{is_false, no_true}
use Rattle.meaning.proofs.QueryOpened.{query_opened}
use Rattle.meaning.proofs.Unused.{unused→absent}
use Rattle.meaning.specs.Answer.{Restrictor}
use Rattle.meaning.specs.Basics.{All, eight}
use Rattle.meaning.specs.Pattern.{Pattern, in_var}
use Rattle.meaning.specs.Query.{query_type_of, unnamed}
use Rattle.meaning.specs.QueryListing.{records_by_lem}
use Rattle.meaning.specs.QueryRecord.{query_record_size, query_variables_size, twelve}
use Rattle.meaning.specs.QueryWords.{query_type_words}
use Rattle.meaning.specs.Record.{Record, path_size_lem, record_size_lem, records_in, slot_size_lem, variables_size_lem}
use Rattle.meaning.specs.Table.{found_words, is_variable_lem, padded, type_words}
use Rattle.meaning.specs.Typing.{absent, type_of}

abbrev names : List ℕ
names = 9 ∷ 10 ∷ 11 ∷ 12 ∷ []

module _ (ρ : Restrictor) (π : Pattern) (ok : Accepted π) where
  no_type : (x : ℕ) → is_variable_lem x ≡ false → type_of π x ≡ absent
  no_type x v = unused→absent π x (is_false (in_var π x) (λ u. no_true (sym (ok.variables x u) ∙ v)))

  pub one_types : query_type_words (unnamed ρ π) ≡ type_words π ++ replicate 24 0
  unfolding query_opened
  one_types = each_append (λ x. padded (found_words (type_of π x))) eight names ∙ ap (λ (l : List ℕ). type_words π ++ l) (rw (no_type 9 refl, no_type 10 refl, no_type 11 refl, no_type 12 refl) refl)

  -- variables that are not used take no words
  sizes_same : (xs ys w : List ℕ) → All (λ x. type_of π x ≡ absent) ys → query_variables_size (query_type_of (unnamed ρ π)) (xs ++ ys) w ≡ variables_size_lem (type_of π) xs w
  unfolding query_opened
  sizes_same [] [] w h = refl
  sizes_same [] (y ∷ ys) w h = rw h.0 (nothing_more (query_variables_size (query_type_of (unnamed ρ π)) ys w) (sizes_same [] ys w h.1))
    where
      nothing_more : (k : ℕ) → k ≡ 0 → 0 + k ≡ 0
      nothing_more k e = omega arith
  sizes_same (x ∷ xs) ys w h = ap (λ (k : ℕ). slot_size_lem (type_of π x) w + k) (sizes_same xs ys (drop (slot_size_lem (type_of π x) w) w) h)

  pub one_size : (w : List ℕ) → query_record_size (unnamed ρ π) w ≡ record_size_lem (type_of π) w
  unfolding query_opened
  one_size w =
      let e : path_size_lem w + 0 ≡ path_size_lem w = omega arith in
      ap (λ (k : ℕ). k + query_variables_size (query_type_of (unnamed ρ π)) twelve (drop k w)) e
      ∙ ap (λ (k : ℕ). path_size_lem w + k) (sizes_same eight names (drop (path_size_lem w) w) (no_type 9 refl, (no_type 10 refl, (no_type 11 refl, (no_type 12 refl, tt)))))

  pub one_records : (k : ℕ) (w : List ℕ) → records_by_lem (query_record_size (unnamed ρ π)) k w ≡ records_in (type_of π) k w
  unfolding query_opened
  one_records zero w = refl
  one_records (suc k) w = ap (λ (n : ℕ). take n w ∷ records_by_lem (query_record_size (unnamed ρ π)) k (drop n w)) (one_size w) ∙ ap (λ (l : List Record). take (record_size_lem (type_of π) w) w ∷ l) (one_records k (drop (record_size_lem (type_of π) w) w))
