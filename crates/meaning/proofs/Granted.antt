-- The full listing over bytes and words: what nothing refuses is a graph and a pattern, and what then holds of every record.
use mathlib.Core.Path.{◌∙◌, ◌≡◌, ap, refl, sym}
use mathlib.Core.List.{List, [], ◌++◌, ◌∷◌, append-nil}
use mathlib.Core.Option.{none, some}
use mathlib.Core.Bool.{◌&&◌, false, not}
use mathlib.Core.Logic.{◌↔◌}
use Prim.Native.Nat.{◌<◌, ◌≤◌, ℕ}
use native.Mathlib.Omega.{arith}
use lib.Dec.{leb}
use lib.ListN.{length, length-map}
use Rattle.meaning.proofs.Accepted.{Accepted, table_accepted}
use Rattle.meaning.proofs.Causes.{first_none, whole_none}
use Rattle.meaning.proofs.ImageRead.{Read, image_read}
use Rattle.meaning.proofs.InGraph.{in_graph}
use Rattle.meaning.proofs.Listings.{listing_iff, listing_sorted, listing_unique}
use Rattle.meaning.proofs.Lists.{length_up}
use Rattle.meaning.proofs.Logic.{all_of, no_true}
use Rattle.meaning.proofs.Opened.{opened}
use Rattle.meaning.proofs.Paths.{short}
use Rattle.meaning.proofs.Reading.{Readable}
use Rattle.meaning.proofs.SameRecord.{answer_readable, one_way, same_answer}
use Rattle.meaning.proofs.Size.{record_size}
use Rattle.meaning.specs.Answer.{Answer, Base, longest, restrictor_of, simple, trail}
use Rattle.meaning.specs.Assignment.{Assignment}
use Rattle.meaning.specs.Basics.{All, Cause, ◌∈◌, first_of, up_from, rowless}
use Rattle.meaning.specs.FullListing.{fixed_fault, full_listing, unless_refused}
use Rattle.meaning.specs.Graph.{Walk, len}
use Rattle.meaning.specs.Image.{edge_count, edge_row, graph_of, image_fault}
use Rattle.meaning.specs.Listing.{Listed, Sorted, listing}
use Rattle.meaning.specs.Record.{Record, record_of_lem}
use Rattle.meaning.specs.Table.{bad_length, pattern_fault, pattern_of, rows_of, table_fault}
use Rattle.meaning.specs.Typing.{type_of}

-- the image and the pattern of a listing that nothing fixed refuses
pub record Granted (image pattern : List ℕ) : Type 0 where
  pub read : Read image
  pub accepted : Accepted (pattern_of pattern)

some_row : (w : List ℕ) → bad_length w ≡ false → 0 < length (rows_of w)
unfolding opened
some_row [] e = no_true e
some_row (a ∷ []) e = no_true e
some_row (a ∷ b ∷ []) e = no_true e
some_row (a ∷ b ∷ c ∷ []) e = no_true e
some_row (a ∷ b ∷ c ∷ d ∷ []) e = no_true e
some_row (a ∷ b ∷ c ∷ d ∷ f ∷ w) e = omega arith

pub pattern_accepted : (pattern : List ℕ) → pattern_fault pattern ≡ none → Accepted (pattern_of pattern)
unfolding opened
pattern_accepted pattern e =
    let p = first_none (rowless 11 (bad_length pattern)) (table_fault (rows_of pattern)) e in
    table_accepted (rows_of pattern) (some_row pattern (whole_none 11 (bad_length pattern) p.0)) p.1

pub granted : (image pattern : List ℕ) (n : ℕ) → fixed_fault image pattern n ≡ none → Granted image pattern
unfolding opened
granted image pattern n e =
    let last : Cause = rowless 21 (not (leb 1 n && leb n 4)) in
    let i = first_none (image_fault image) (first_of (pattern_fault pattern) last) e in
    let p = first_none (pattern_fault pattern) last i.1 in
    record { read = image_read image i.0; accepted = pattern_accepted pattern p.0 }

unless_none : (c : Cause) (l : List Record) → c ≡ none → unless_refused c l ≡ l
unfolding opened
unless_none c l e = ap (λ (x : Cause). unless_refused x l) e

module _ (image pattern : List ℕ) (n : ℕ) (ok : fixed_fault image pattern n ≡ none) where
  listing_is : full_listing image pattern n ≡ listing (graph_of image) (restrictor_of n) (pattern_of pattern)
  unfolding opened
  listing_is = unless_none (fixed_fault image pattern n) (listing (graph_of image) (restrictor_of n) (pattern_of pattern)) ok

  pub members : (r : Record) → (r ∈ full_listing image pattern n) ↔ Listed (graph_of image) (restrictor_of n) (pattern_of pattern) r
  unfolding opened
  members r =
      let g = granted image pattern n ok in
      let h = listing_iff (graph_of image) g.read.valid (pattern_of pattern) g.accepted.sound (restrictor_of n) r in
      ((λ m. h.0 (rw listing_is at m)), (λ l. rw listing_is (h.1 l)))

  -- any strictly rising list with these members is the full listing
  pub unique : (l : List Record) → Sorted l → ((r : Record) → (r ∈ l) ↔ Listed (graph_of image) (restrictor_of n) (pattern_of pattern) r) → l ≡ full_listing image pattern n
  unfolding opened
  unique l s h =
      let g = granted image pattern n ok in
      listing_unique (graph_of image) g.read.valid (pattern_of pattern) g.accepted.sound (restrictor_of n) l s h ∙ sym listing_is

  pub few_nodes : (graph_of image).nodes ≤ 200
  unfolding opened
  few_nodes = (granted image pattern n ok).read.few_nodes

  pub few_edges : length (graph_of image).edges ≤ 200
  unfolding opened
  few_edges = let g : edge_count image ≤ 200 = (granted image pattern n ok).read.few_edges in omega (arith, length-map (up_from (edge_count image) 0) (edge_row image), length_up (edge_count image) 0)

  longest_few : (ρ : Base) → longest ρ (graph_of image) ≤ 200
  unfolding opened
  longest_few trail = few_edges
  longest_few simple = few_nodes

  -- an answer's path has at most 200 edges
  pub path_few : (p : Walk) (μ : Assignment) → Answer (graph_of image) (restrictor_of n) (pattern_of pattern) p μ → len p ≤ 200
  unfolding opened
  path_few p μ a =
      let g = granted image pattern n ok in
      let ρ : Base = (restrictor_of n).base in
      let k = short (graph_of image) ρ p (in_graph (graph_of image) g.read.valid (pattern_of pattern) p μ a.base_answer.means) a.base_answer.restricted in
      omega (arith, longest_few ρ, k)

  -- the header's bound, GPC_MOST_RECORD_WORDS
  pub header_bound : (r : Record) → r ∈ full_listing image pattern n → length r ≤ 16410
  unfolding opened
  header_bound r m =
      let g = granted image pattern n ok in
      let h = (members r).0 m in
      let k = record_size (graph_of image) (pattern_of pattern) g.accepted.sound g.accepted.shallow h.path h.assignment h.answer.base_answer.means (path_few h.path h.assignment h.answer) in
      rw h.record_is k

  -- 01: no record exceeds 20,000 words
  pub no_longer : (r : Record) → r ∈ full_listing image pattern n → length r ≤ 20000
  no_longer r m = omega (arith, header_bound r m)

  -- records followed by words: what follows is the same where the whole is, so no record begins another
  pub records_part : (r s : Record) → r ∈ full_listing image pattern n → s ∈ full_listing image pattern n → (x y : List ℕ) → r ++ x ≡ s ++ y → x ≡ y
  unfolding opened
  records_part r s m l x y e =
      let g = granted image pattern n ok in
      let h = (members r).0 m in
      let k = (members s).0 l in
      one_way (graph_of image) g.read.valid (pattern_of pattern) g.accepted 200 (omega (arith, few_nodes)) (omega (arith, few_edges)) (omega arith)
      h.path k.path h.assignment k.assignment h.answer.base_answer.means k.answer.base_answer.means (path_few h.path h.assignment h.answer) (path_few k.path k.assignment k.answer) x y
      (sym (ap (λ (l : List ℕ). l ++ x) h.record_is) ∙ (e ∙ ap (λ (l : List ℕ). l ++ y) k.record_is))

  pub none_begins : (r s : Record) → r ∈ full_listing image pattern n → s ∈ full_listing image pattern n → (x : List ℕ) → r ++ x ≡ s → x ≡ []
  unfolding opened
  none_begins r s m l x e = records_part r s m l x [] (e ∙ sym (append-nil s))

  -- two answers with one record: the same path, and the same value at every variable
  pub same_record : (p q : Walk) (μ ν : Assignment) → Answer (graph_of image) (restrictor_of n) (pattern_of pattern) p μ → Answer (graph_of image) (restrictor_of n) (pattern_of pattern) q ν → record_of_lem p μ ≡ record_of_lem q ν → (p ≡ q) × ((x : ℕ) → μ x ≡ ν x)
  unfolding opened
  same_record p q μ ν a b e =
      let g = granted image pattern n ok in
      same_answer (graph_of image) g.read.valid (pattern_of pattern) g.accepted 200 (omega (arith, few_nodes)) (omega (arith, few_edges)) (omega arith) p q μ ν a.base_answer.means b.base_answer.means (path_few p μ a) (path_few q ν b) e

  -- every record is read off words that begin with it
  pub readable : (r : Record) → r ∈ full_listing image pattern n → Readable (type_of (pattern_of pattern)) r
  unfolding opened
  readable r m =
      let g = granted image pattern n ok in
      let h = (members r).0 m in
      rw h.record_is (answer_readable (graph_of image) g.read.valid (pattern_of pattern) g.accepted 200 (omega (arith, few_nodes)) (omega (arith, few_edges)) (omega arith) h.path h.assignment h.answer.base_answer.means (path_few h.path h.assignment h.answer))

-- ------------------------------------------------------------------ for every image, pattern and restrictor, refused or not
unless_all : (P : List Record → Type 0) (c : Cause) (l : List Record) → P [] → (c ≡ none → P l) → P (unless_refused c l)
unfolding opened
unless_all P none l h k = k refl
unless_all P (some a) l h k = h

pub full_sorted : (image pattern : List ℕ) (n : ℕ) → Sorted (full_listing image pattern n)
unfolding opened
full_sorted image pattern n = unless_all Sorted (fixed_fault image pattern n) (listing (graph_of image) (restrictor_of n) (pattern_of pattern)) tt (λ e. listing_sorted (graph_of image) (restrictor_of n) (pattern_of pattern))

-- where something fixed is refused the listing is empty
pub refused_empty : (image pattern : List ℕ) (n : ℕ) (c : ℕ × ℕ) → fixed_fault image pattern n ≡ some c → full_listing image pattern n ≡ []
unfolding opened
refused_empty image pattern n c e = ap (λ (x : Cause). unless_refused x (listing (graph_of image) (restrictor_of n) (pattern_of pattern))) e

pub full_readable : (image pattern : List ℕ) (n : ℕ) → All (Readable (type_of (pattern_of pattern))) (full_listing image pattern n)
unfolding opened
full_readable image pattern n = go (fixed_fault image pattern n) refl
  where
    go : (c : Cause) → fixed_fault image pattern n ≡ c → All (Readable (type_of (pattern_of pattern))) (full_listing image pattern n)
    go none e = all_of (Readable (type_of (pattern_of pattern))) (full_listing image pattern n) (readable image pattern n e)
    go (some c) e = rw (refused_empty image pattern n c e) tt
