-- A query of one part without a name: its first cause, its listing, its pages and its verdicts are those of the pattern and the restrictor alone.
-- So what the base's lister and judge promise is promised of such a query, with nothing proved again.
use mathlib.Core.Path.{◌∙◌, ◌≡◌, ap, ap₂, refl, sym}
use mathlib.Core.List.{List, [], ◌++◌, ◌∷◌, append-nil}
use mathlib.Core.Option.{Option, none, some}
use mathlib.Core.Bool.{Bool, ◌&&◌, ◌||◌, false, not, true}
use mathlib.Core.Logic.{◌≢◌}
use Prim.Native.Nat.{◌+◌, ℕ}
use native.Mathlib.Omega.{arith}
use lib.Dec.{leb}
use lib.ListN.{length}
use lib.Seq.{take_all}
use borrow.Author.Tests.{eq-eqb}
use Rattle.meaning.proofs.Accepted.{Accepted}
use Rattle.meaning.proofs.Conforming.{conforms}
use Rattle.meaning.proofs.Granted.{full_sorted, granted, members, pattern_accepted, refused_empty}
use Rattle.meaning.proofs.Logic.{no_true, or_false_both}
use Rattle.meaning.proofs.QueryGranted.{query_unique}
use Rattle.meaning.proofs.QueryOpened.{query_opened}
use Rattle.meaning.proofs.Unused.{unused→absent}
use Rattle.meaning.specs.Answer.{Answer, Restrictor, restrictor_of}
use Rattle.meaning.specs.Assignment.{Assignment, Conforms, Value}
use Rattle.meaning.specs.Basics.{Cause, eight, first_of, rowless}
use Rattle.meaning.specs.FullListing.{fixed_fault, full_listing, is_one_of, judge}
use Rattle.meaning.specs.Graph.{Graph, Valid, Walk, len}
use Rattle.meaning.specs.Image.{graph_of, image_fault}
use Rattle.meaning.specs.Joins.{lifted, plainly}
use Rattle.meaning.specs.Listing.{Listed}
use Rattle.meaning.specs.Machine.{plain_run}
use Rattle.meaning.specs.Page.{Lent, after, left, outcome}
use Rattle.meaning.specs.Pattern.{Pattern, in_var}
use Rattle.meaning.specs.Query.{unnamed}
use Rattle.meaning.specs.QueryListing.{fill_page_lem, fixed_by, judge_query, machine_of, query_fixed_fault, query_full_listing, query_in}
use Rattle.meaning.specs.QueryRecord.{QueryListed, query_record_of, query_slot_words, query_variable_words, twelve}
use Rattle.meaning.specs.QueryWords.{Part, alone, bad_layout_lem, bad_restrictor, parts_of, query_fault, query_untyped}
use Rattle.meaning.specs.Record.{Record, path_words_lem, record_of_lem, slot_words_lem, variable_words}
use Rattle.meaning.specs.Table.{any_of, is_clash_lem, is_variable_lem, pattern_fault, pattern_of}
use Rattle.meaning.specs.Typing.{Found, absent, clash, type_of, typed}

-- ------------------------------------------------------------------ the words of an answer
slot_same : (o : Option Value) → query_slot_words (plainly o) ≡ slot_words_lem o
unfolding query_opened
slot_same none = refl
slot_same (some v) = refl

variables_same : (xs : List ℕ) (ν : Assignment) → query_variable_words xs (lifted ν) ≡ variable_words xs ν
unfolding query_opened
variables_same [] ν = refl
variables_same (x ∷ xs) ν = ap₂ ◌++◌ (slot_same (ν x)) (variables_same xs ν)

names_unused : (ν : Assignment) → ν 9 ≡ none → ν 10 ≡ none → ν 11 ≡ none → ν 12 ≡ none → variable_words twelve ν ≡ variable_words eight ν
unfolding query_opened
names_unused ν a b c d = rw (a, b, c, d) refl

module _ (G : Graph) (valid : Valid G) (ρ : Restrictor) (π : Pattern) (ok : Accepted π) where
  unbound : (p : Walk) (ν : Assignment) → Answer G ρ π p ν → (x : ℕ) → is_variable_lem x ≡ false → ν x ≡ none
  unbound p ν a x e = go (in_var π x) refl
    where
      go : (b : Bool) → in_var π x ≡ b → ν x ≡ none
      go true u = no_true (sym (ok.variables x u) ∙ e)
      go false u = let z : Conforms G.nodes (length G.edges) (len p) absent (ν x) = rw (unused→absent π x u) at (conforms G valid (len p) π ok.sound p ν a.base_answer.means (omega arith) x) in z

  pub one_record : (p : Walk) (ν : Assignment) → Answer G ρ π p ν → query_record_of (p ∷ []) (lifted ν) ≡ record_of_lem p ν
  unfolding query_opened
  one_record p ν a =
      let e : variable_words twelve ν ≡ variable_words eight ν = names_unused ν (unbound p ν a 9 refl) (unbound p ν a 10 refl) (unbound p ν a 11 refl) (unbound p ν a 12 refl) in
      ap₂ ◌++◌ (append-nil (path_words_lem p)) (variables_same twelve ν ∙ e)

  one_listed→ : (r : Record) → Listed G ρ π r → QueryListed G (unnamed ρ π) r
  unfolding query_opened
  one_listed→ r h = record {
    paths = h.path ∷ [];
    assignment = lifted h.assignment;
    answer = record { p = h.path; ν = h.assignment; answer = h.answer; paths_are = refl; assignment_is = refl };
    record_is = h.record_is ∙ sym (one_record h.path h.assignment h.answer);
  }

  one_listed← : (r : Record) → QueryListed G (unnamed ρ π) r → Listed G ρ π r
  unfolding query_opened
  one_listed← r h =
      let a = h.answer in
      record { path = a.p; assignment = a.ν; answer = a.answer; record_is = h.record_is ∙ (ap₂ query_record_of a.paths_are a.assignment_is ∙ one_record a.p a.ν a.answer) }

-- ------------------------------------------------------------------ causes
no_any : (f : ℕ → Bool) (l : List ℕ) → ((x : ℕ) → f x ≡ false) → any_of l f ≡ false
unfolding query_opened
no_any f [] h = refl
no_any f (x ∷ l) h = or_false_both (f x) (any_of l f) (h x) (no_any f l h)

not_clash : (f : Found) → f ≢ clash → is_clash_lem f ≡ false
unfolding query_opened
not_clash absent h = refl
not_clash clash h = absurd (h refl)
not_clash (typed τ) h = refl

typed_alone : (ρ : Restrictor) (π : Pattern) → Accepted π → query_untyped (unnamed ρ π) ≡ false
unfolding query_opened
typed_alone ρ π ok = no_any (λ x. is_clash_lem (type_of π x)) twelve (λ x. not_clash (type_of π x) (ok.no_clash x))

-- one part, without a name
pub record Alone (query : List ℕ) (a : Part) : Type 0 where
  pub laid_out : bad_layout_lem query ≡ false
  pub parts_are : parts_of query ≡ a ∷ []
  pub no_name : a.name ≡ 0

module _ (query : List ℕ) (a : Part) (alone : Alone query a) where
  pub one_query : query_in query ≡ unnamed (restrictor_of a.restrictor) (pattern_of a.words)
  unfolding query_opened
  one_query = rw (alone.parts_are, alone.no_name) refl

  pub one_check : query_fault query ≡ pattern_fault a.words
  unfolding query_opened
  one_check = rw (alone.laid_out, alone.parts_are, alone.no_name) (go (pattern_fault a.words) refl)
    where
      go : (c : Cause) → pattern_fault a.words ≡ c → first_of (first_of c none) (rowless 33 (query_untyped (unnamed (restrictor_of a.restrictor) (pattern_of a.words)))) ≡ c
      go none e = ap (rowless 33) (typed_alone (restrictor_of a.restrictor) (pattern_of a.words) (pattern_accepted a.words e))
      go (some c) e = refl

  one_21 : bad_restrictor (parts_of query) ≡ not (leb 1 a.restrictor && leb a.restrictor 4)
  unfolding query_opened
  one_21 = rw alone.parts_are (or_none (not (leb 1 a.restrictor && leb a.restrictor 4)))
    where
      or_none : (b : Bool) → (b || false) ≡ b
      or_none true = refl
      or_none false = refl

  module _ (image : List ℕ) where
    pub one_fault : query_fixed_fault image query ≡ fixed_fault image a.words a.restrictor
    unfolding query_opened
    one_fault = ap (λ (c : Cause). first_of (image_fault image) c) (ap₂ (λ (c : Cause) (b : Bool). first_of c (rowless 21 b)) one_check one_21)

    pub one_listing : query_full_listing image query ≡ full_listing image a.words a.restrictor
    unfolding query_opened
    one_listing = go (fixed_fault image a.words a.restrictor) refl
      where
        go : (c : Cause) → fixed_fault image a.words a.restrictor ≡ c → query_full_listing image query ≡ full_listing image a.words a.restrictor
        go none e =
            let g = granted image a.words a.restrictor e in
            let G : Graph = graph_of image in
            let ρ : Restrictor = restrictor_of a.restrictor in
            let π : Pattern = pattern_of a.words in
            sym (query_unique image query (one_fault ∙ e) (full_listing image a.words a.restrictor) (full_sorted image a.words a.restrictor)
            (λ r. ((λ m. rw one_query (one_listed→ G g.read.valid ρ π g.accepted r ((members image a.words a.restrictor e r).0 m))), (λ h. (members image a.words a.restrictor e r).1 (one_listed← G g.read.valid ρ π g.accepted r (rw one_query at h))))))
        go (some c) e = rw (one_fault ∙ e) (sym (refused_empty image a.words a.restrictor c e))

    -- so the base's promises carry over
    pub one_judge : (r : Record) → judge_query image query r ≡ judge image a.words a.restrictor r
    unfolding query_opened
    one_judge r = ap (is_one_of r) one_listing

    pub one_page : (bookmark : List ℕ) (c : Lent) → fill_page_lem image query bookmark c ≡ left c (outcome (fixed_fault image a.words a.restrictor) c (after bookmark (full_listing image a.words a.restrictor)))
    unfolding query_opened
    one_page bookmark c = ap₂ (λ (f : Cause) (l : List Record). left c (outcome f c (after bookmark l))) one_fault one_listing

-- ------------------------------------------------------------------ as words
abbrev only_part : ℕ → List ℕ → Part
only_part n pattern = record { restrictor = n; name = 0; words = pattern }

pub alone_is : (n : ℕ) (pattern : List ℕ) → Alone (alone n pattern) (record { restrictor = n; name = 0; words = pattern })
unfolding query_opened
alone_is n pattern = record {
  laid_out = ap not (eq-eqb (length (n ∷ 0 ∷ length pattern ∷ pattern)) (3 + (length pattern + 0)) (omega arith));
  parts_are = ap (λ (w : List ℕ). only_part n w ∷ []) (take_all (length pattern) pattern (omega arith));
  no_name = refl;
}

-- what the base listed, and what its machine printed
pub one_part : (image pattern : List ℕ) (n : ℕ) → query_full_listing image (1 ∷ n ∷ 0 ∷ length pattern ∷ pattern) ≡ full_listing image pattern n
one_part image pattern n = one_listing (alone n pattern) (only_part n pattern) (alone_is n pattern) image

pub one_part_machine : (image pattern : List ℕ) (n : ℕ) (calls : List Lent) → machine_of (fixed_by image (1 ∷ n ∷ 0 ∷ length pattern ∷ pattern)) calls ≡ plain_run (fixed_fault image pattern n) (full_listing image pattern n) 0 calls
unfolding query_opened
one_part_machine image pattern n calls = ap₂ (λ (f : Cause) (l : List Record). plain_run f l 0 calls) (one_fault (alone n pattern) (only_part n pattern) (alone_is n pattern) image) (one_part image pattern n)
