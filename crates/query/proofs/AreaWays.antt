-- The loop that writes the types, and the ways out of check_types.
use mathlib.Core.Path.{◌≡◌, refl, sym, ap, ap₂, ◌∙◌}
use mathlib.Core.List.{List, [], ◌∷◌, ◌++◌, append-nil}
use mathlib.Core.Option.{none, some}
use mathlib.Core.Bool.{Bool, true, false}
use Prim.Native.Nat.{ℕ, zero, suc, ◌+◌, ◌*◌, ◌<◌, ◌≤◌}
use native.Mathlib.Omega.{arith}
use native.Mathlib.Numerals.{add-one}
use lib.ListN.{length, take, drop, length-append, length-drop}
use lib.Seq.{take_at, drop-append-add, drop-drop}
use borrow.Author.Tests.{lt-ltb, le-ltb}
use Rattle.joins.proofs.NamedTypes.{name_found_lem}
use Rattle.joins.proofs.Setting.{query_setting}
use Rattle.joins.specs.Projected.{found_in}
use Rattle.meaning.proofs.Lists.{each_append, up_end}
use Rattle.meaning.proofs.Logic.{no_true}
use Rattle.meaning.proofs.TypeWords.{length_padded}
use Rattle.std.specs.Prelude.{if◌then◌else◌, Result, Ok, Err, is_err, ⊤}
use Rattle.meaning.specs.Basics.{Cause, each, up_from}
use Rattle.meaning.specs.Query.{query_type_of}
use Rattle.meaning.specs.QueryListing.{query_in, types_or_zeros}
use Rattle.meaning.specs.QueryRecord.{twelve}
use Rattle.meaning.specs.QueryWords.{name_used_lem, parts_of, query_fault, query_found_words, query_type_words}
use Rattle.meaning.specs.Report.{over, cleared}
use Rattle.meaning.specs.Table.{found_words, padded}
use Rattle.query.proofs.CheckWays.{accepted_fine}
use Rattle.query.proofs.Refusals.{no_cause}
use Rattle.query.proofs.TypeWays.{name_type, variable_type}
use Rattle.query.specs.Fine.{Accepted}
use Rattle.query.specs.TypeArea.{Digits, TypesLeft}
use Rattle.query.specs.Verdict.{cause_of}
use Rattle.query.specs.declared.causes.Refusal.{Refusal}
use Rattle.query.specs.declared.causes.Refusal.TheVariants.{TypeAreaTooShort}
use Rattle.typecode.proofs.Octal.{found_octal}
use Rattle.typecode.specs.Codes.{code_of}
use Rattle.typecode.specs.Octal.{octal}
use Rattle.words.specs.Fault.{is_refused}

-- ------------------------------------------------------------------ found_code
module _ (query : List ℕ) (x : ℕ) (ok : Accepted query) where
  pub digits_variable : 1 ≤ x → x < 9 → (code : ℕ) → code ≡ code_of (found_in (parts_of query) x) → Digits query x code
  unfolding query_found_words query_in
  digits_variable g h code e =
      let f = found_octal (found_in (parts_of query) x) ((query_setting query ok.no_fault).clean x) in
      record { are = ap (octal 6) e ∙ f ∙ sym (ap (λ q. padded (query_found_words q)) (variable_type query ok.fine x g h)) }

  module _ (g : 9 ≤ x) (used : Bool) (told : used ≡ name_used_lem x (parts_of query)) where
    named : padded (query_found_words (query_type_of (query_in query) x)) ≡ padded (query_found_words (name_found_lem used))
    unfolding query_in
    named = ap (λ q. padded (query_found_words q)) (name_type query ok.fine x g ∙ ap name_found_lem (sym told))

    pub digits_name : used ≡ true → Digits query x 5
    unfolding query_found_words name_found_lem padded octal
    digits_name e = record { are = sym (named ∙ ap (λ (b : Bool). padded (query_found_words (name_found_lem b))) e) }

    pub digits_none : used ≡ false → Digits query x 0
    unfolding query_found_words name_found_lem found_words padded octal
    digits_none e = record { are = sym (named ∙ ap (λ (b : Bool). padded (query_found_words (name_found_lem b))) e) }

-- ------------------------------------------------------------------ the loop over the variables
abbrev words_of : List ℕ → ℕ → List ℕ
words_of query y = padded (query_found_words (query_type_of (query_in query) y))

abbrev up_to : List ℕ → ℕ → List ℕ
up_to query x = each (up_from x 1) (words_of query)

up_more : (query : List ℕ) (x : ℕ) → up_to query (x + 1) ≡ up_to query x ++ words_of query (x + 1)
unfolding each
up_more query x =
    let e : 1 + x ≡ x + 1 = omega arith in
    ap (λ (n : ℕ). each (up_from n 1) (words_of query)) (add-one x) ∙ ap (λ (l : List ℕ). each l (words_of query)) (up_end x 1) ∙ each_append (words_of query) (up_from x 1) ((1 + x) ∷ []) ∙ rw (e, append-nil (words_of query (x + 1)))

up_long : (query : List ℕ) (x : ℕ) → length (up_to query x) ≡ 6 * x
unfolding each up_from
up_long query zero = refl
up_long query (suc x) = ap length (ap (up_to query) (sym (add-one x)) ∙ up_more query x) ∙ length-append (up_to query x) (words_of query (x + 1)) ∙ omega (arith, up_long query x, length_padded (query_found_words (query_type_of (query_in query) (x + 1))))

-- the types of the variables 1 to x are written
pub record Writing (query d₀ d : List ℕ) (x : ℕ) : Type 0 where
  pub upto : x ≤ 12
  pub room : 72 ≤ length d₀
  pub same_long : length d ≡ length d₀
  pub is : d ≡ up_to query x ++ drop (6 * x) d₀

pub writing_none : (query d : List ℕ) → 72 ≤ length d → Writing query d d 0
unfolding each up_from
writing_none query d h = record { upto = omega arith; room = h; same_long = refl; is = refl }

pub writing_more : (query d₀ d d' : List ℕ) (x code : ℕ) → Writing query d₀ d x → x < 12 → Digits query (x + 1) code → d' ≡ take (6 * x) d ++ octal 6 code ++ drop (6 * x + 6) d → Writing query d₀ d' (x + 1)
writing_more query d₀ d d' x code w l h q =
    let n = up_long query x in
    let front : take (6 * x) d ≡ up_to query x = ap (take (6 * x)) w.is ∙ take_at (up_to query x) (drop (6 * x) d₀) (6 * x) n in
    let back : drop (6 * x + 6) d ≡ drop (6 * x + 6) d₀ = ap (drop (6 * x + 6)) w.is ∙ ap (λ (m : ℕ). drop (m + 6) (up_to query x ++ drop (6 * x) d₀)) (sym n) ∙ drop-append-add (up_to query x) (drop (6 * x) d₀) 6 ∙ drop-drop 6 (6 * x) d₀ in
    let s : 6 * x + 6 ≡ 6 * (x + 1) = omega arith in
    let z : d' ≡ up_to query (x + 1) ++ drop (6 * (x + 1)) d₀ = q ∙ (rw (front, h.are, back) refl) ∙ ap₂ (λ (a : List ℕ) (m : ℕ). a ++ drop m d₀) (sym (up_more query x)) s in
    record { upto = omega arith; room = w.room; same_long = ap length z ∙ length-append (up_to query (x + 1)) (drop (6 * (x + 1)) d₀) ∙ omega (arith, up_long query (x + 1), length-drop (6 * (x + 1)) d₀, w.room); is = z }

pub writing_all : (query d₀ d : List ℕ) (x : ℕ) → Writing query d₀ d x → 12 ≤ x → d ≡ over (query_type_words (query_in query)) d₀
unfolding over query_type_words twelve up_from
writing_all query d₀ d x w l =
    let e : x ≡ 12 = omega (arith, w.upto) in
    w.is ∙ ap (λ (n : ℕ). up_to query n ++ drop (6 * n) d₀) e ∙ ap (λ (m : ℕ). up_to query 12 ++ drop m d₀) (sym (up_long query 12))

-- ------------------------------------------------------------------ check_types
module _ (query d : List ℕ) where
  pub left_short : length d < 72 → TypesLeft query d d (Err TypeAreaTooShort)
  left_short h = record { verdict_is = rw (lt-ltb (length d) 72 h); types_are = rw (lt-ltb (length d) 72 h) }

  refused_is : (o : Result ⊤ Refusal) → is_err o ≡ is_refused (cause_of o)
  refused_is (Ok u) = refl
  refused_is (Err e) = refl

  -- o is what the check told, r whether it refuses
  module _ (o : Result ⊤ Refusal) (r : Bool) (err : r ≡ is_err o) (q : cause_of o ≡ query_fault query) where
    told : r ≡ is_refused (cause_of o)
    told = err ∙ refused_is o

    pub accepted_by : r ≡ false → Accepted query
    accepted_by e = accepted_fine query (sym q ∙ no_cause (cause_of o) r told e)

    module _ (h : 72 ≤ length d) where
      left_as : (a : List ℕ) → a ≡ over (types_or_zeros (query_fault query) query) d → TypesLeft query d a o
      left_as a w = record { verdict_is = q ∙ sym (ap (λ (b : Bool). if b then some (17, 0) else query_fault query) (le-ltb (length d) 72 h)); types_are = w ∙ sym (ap (λ (b : Bool). if b then d else over (types_or_zeros (query_fault query) query) d) (le-ltb (length d) 72 h)) }

      pub left_types : r ≡ false → (a : List ℕ) → a ≡ over (query_type_words (query_in query)) d → TypesLeft query d a o
      unfolding types_or_zeros
      left_types e a w = left_as a (w ∙ rw (accepted_by e).no_fault)

      pub left_zeros : r ≡ true → (a : List ℕ) → a ≡ cleared 72 d → TypesLeft query d a o
      unfolding types_or_zeros over cleared
      left_zeros e a w = left_as a (w ∙ go (query_fault query) (sym e ∙ told ∙ ap is_refused q))
        where
          go : (c : Cause) → true ≡ is_refused c → cleared 72 d ≡ over (types_or_zeros c query) d
          go none n = no_true n
          go (some c) n = refl
