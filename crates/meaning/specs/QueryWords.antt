-- 02, Q-1, 'It is lent as words': the parts of a query's words, refusals 31, 32 and 33 beside those of the parts, the query of accepted words, its types in words.
use Rattle.std.specs.Prelude.{List, [], ◌∷◌, Bool, true, false, not, ◌&&◌, ◌||◌, ℕ, zero, suc, ◌+◌, ◌*◌, eqb, leb, length, get_or, take, drop, if◌then◌else◌}
use Rattle.std.proofs.Math.Option.{none}
use Rattle.meaning.specs.Basics.{each, Cause, first_of, rowless}
use Rattle.meaning.specs.Pattern.{node}
use Rattle.meaning.specs.Answer.{restrictor_of}
use Rattle.meaning.specs.Table.{any_of, is_clash_lem, pattern_fault, pattern_of, found_words, padded}
use Rattle.meaning.specs.Query.{Query, unnamed, naming, joining, QueryFound, element, path, query_type_of}
use Rattle.meaning.specs.QueryRecord.{twelve}

-- a part as it is lent: its restrictor's number, its path name (0 none), its pattern's words
pub record Part : Type 0 where
  pub restrictor : ℕ
  pub name : ℕ
  pub words : List ℕ

-- n parts: heads are three words for each, patterns the words of the patterns in turn
unfoldable pub parts_from : ℕ → List ℕ → List ℕ → List Part
parts_from zero heads patterns = []
parts_from (suc n) heads patterns =
    let part : Part = record { restrictor = get_or heads 0 0; name = get_or heads 1 0; words = take (get_or heads 2 0) patterns } in
    part ∷ parts_from n (drop 3 heads) (drop (get_or heads 2 0) patterns)

unfoldable pub parts_of : List ℕ → List Part
parts_of [] = []
parts_of (n ∷ w) = parts_from n w (drop (3 * n) w)

-- the words of one part without a name, as the base's hosts lend a pattern and its restrictor's number
abbrev pub alone : ℕ → List ℕ → List ℕ
alone n pattern = 1 ∷ n ∷ 0 ∷ length pattern ∷ pattern

-- the words that the heads of n parts ask for
unfoldable pub lengths_of : ℕ → List ℕ → ℕ
lengths_of zero heads = 0
lengths_of (suc n) heads = get_or heads 2 0 + lengths_of n (drop 3 heads)

-- 31: no part, over four, or words not so laid out
unfoldable pub bad_layout_lem : List ℕ → Bool
bad_layout_lem [] = true
bad_layout_lem (n ∷ w) = not (leb 1 n && leb n 4) || not (eqb (length w) (3 * n + lengths_of n w))

-- 32: a name outside 0 and 9 to 12, or one of 9 to 12 used twice
unfoldable pub is_name_lem : ℕ → Bool
is_name_lem x = leb 9 x && leb x 12

unfoldable pub name_used_lem : ℕ → List Part → Bool
name_used_lem x [] = false
name_used_lem x (a ∷ l) = eqb x a.name || name_used_lem x l

unfoldable pub bad_names_lem : List Part → Bool
bad_names_lem [] = false
bad_names_lem (a ∷ l) = (not (eqb a.name 0) && (not (is_name_lem a.name) || name_used_lem a.name l)) || bad_names_lem l

-- 11 to 16 of each part, in part order
unfoldable pub parts_fault : List Part → Cause
parts_fault [] = none
parts_fault (a ∷ l) = first_of (pattern_fault a.words) (parts_fault l)

unfoldable pub part_query : Part → Query
part_query a = if eqb a.name 0 then unnamed (restrictor_of a.restrictor) (pattern_of a.words) else naming a.name (restrictor_of a.restrictor) (pattern_of a.words)

-- the parts joined, the last two first; the stand-in is for no part, which 31 refuses
unfoldable pub query_of : List Part → Query
query_of [] = unnamed (restrictor_of 1) (node none none)
query_of (a ∷ []) = part_query a
query_of (a ∷ b ∷ l) = joining (part_query a) (query_of (b ∷ l))

-- 33: some variable has no type in the query
unfoldable pub is_query_clash : QueryFound → Bool
is_query_clash (element f) = is_clash_lem f
is_query_clash path = false

unfoldable pub query_untyped : Query → Bool
query_untyped Q = any_of twelve (λ x. is_query_clash (query_type_of Q x))

-- 31, 32, 11 to 16, 33
unfoldable pub query_fault : List ℕ → Cause
query_fault query = first_of (rowless 31 (bad_layout_lem query)) (first_of (rowless 32 (bad_names_lem (parts_of query))) (first_of (parts_fault (parts_of query)) (rowless 33 (query_untyped (query_of (parts_of query))))))

-- 21: a part's restrictor is not 1 to 4
unfoldable pub bad_restrictor : List Part → Bool
bad_restrictor [] = false
bad_restrictor (a ∷ l) = not (leb 1 a.restrictor && leb a.restrictor 4) || bad_restrictor l

-- ------------------------------------------------------------------ types: six numbers for each of the twelve
unfoldable pub query_found_words : QueryFound → List ℕ
query_found_words (element f) = found_words f
query_found_words path = 5 ∷ []

unfoldable pub query_type_words : Query → List ℕ
query_type_words Q = each twelve (λ x. padded (query_found_words (query_type_of Q x)))
