-- Two answers with one record are the same answer; and no record begins another.
use mathlib.Core.Path.{◌∙◌, ◌≡◌, ap, refl, sym}
use mathlib.Core.List.{List, [], ◌++◌}
use mathlib.Core.Option.{none}
use mathlib.Core.Bool.{Bool, false, true}
use Prim.Native.Nat.{◌<◌, ◌≤◌, ℕ}
use lib.ListN.{length}
use Rattle.meaning.proofs.Accepted.{Accepted, used_eight}
use Rattle.meaning.proofs.Conforming.{conforms}
use Rattle.meaning.proofs.Logic.{all_mem}
use Rattle.meaning.proofs.Opened.{opened}
use Rattle.meaning.proofs.Reading.{Readable, record_size_is}
use Rattle.meaning.proofs.Unused.{unused→absent}
use Rattle.meaning.proofs.Words.{record_part}
use Rattle.meaning.specs.Assignment.{Assignment, Conforms}
use Rattle.meaning.specs.Basics.{All, eight}
use Rattle.meaning.specs.Graph.{Graph, Valid, Walk, len}
use Rattle.meaning.specs.Meaning.{Meaning}
use Rattle.meaning.specs.Pattern.{Pattern, in_var}
use Rattle.meaning.specs.Record.{record_of_lem}
use Rattle.meaning.specs.Typing.{absent, type_of}

-- two assignments that conform to the pattern's types, over n nodes and m edges
module _ (π : Pattern) (ok : Accepted π) (n m k : ℕ) (hn : n < 65535) (hm : m < 65535) (hk : k < 65535) where
  module _ (p q : Walk) (μ ν : Assignment) (c : (x : ℕ) → Conforms n m k (type_of π x) (μ x)) (d : (x : ℕ) → Conforms n m k (type_of π x) (ν x)) where
    part : (s t : List ℕ) → record_of_lem p μ ++ s ≡ record_of_lem q ν ++ t → (p ≡ q) × All (λ x. μ x ≡ ν x) eight × (s ≡ t)
    unfolding opened
    part = record_part n m k hn hm hk (type_of π) ok.no_clash μ ν c d p q

    pub same_conforming : record_of_lem p μ ≡ record_of_lem q ν → (p ≡ q) × ((x : ℕ) → μ x ≡ ν x)
    unfolding opened
    same_conforming e = let z = part [] [] (ap (λ (r : List ℕ). r ++ []) e) in (z.0, λ x. go x z.1 (in_var π x) refl)
      where
        unbound : (ξ : Assignment) (x : ℕ) → in_var π x ≡ false → Conforms n m k (type_of π x) (ξ x) → ξ x ≡ none
        unbound ξ x u h = let z : Conforms n m k absent (ξ x) = rw (unused→absent π x u) at h in z

        go : (x : ℕ) → All (λ y. μ y ≡ ν y) eight → (u : Bool) → in_var π x ≡ u → μ x ≡ ν x
        go x s true f = all_mem (λ y. μ y ≡ ν y) s (used_eight π ok x f)
        go x s false f = unbound μ x f (c x) ∙ sym (unbound ν x f (d x))

module _ (G : Graph) (valid : Valid G) (π : Pattern) (ok : Accepted π) (k : ℕ) (hn : G.nodes < 65535) (hm : length G.edges < 65535) (hk : k < 65535) where
  module _ (p q : Walk) (μ ν : Assignment) (h : Meaning G π p μ) (j : Meaning G π q ν) (a : len p ≤ k) (b : len q ≤ k) where
    -- what follows the records is the same where the words are
    pub one_way : (s t : List ℕ) → record_of_lem p μ ++ s ≡ record_of_lem q ν ++ t → s ≡ t
    unfolding opened
    one_way s t e = (part π ok G.nodes (length G.edges) k hn hm hk p q μ ν (conforms G valid k π ok.sound p μ h a) (conforms G valid k π ok.sound q ν j b) s t e).2

    pub same_answer : record_of_lem p μ ≡ record_of_lem q ν → (p ≡ q) × ((x : ℕ) → μ x ≡ ν x)
    unfolding opened
    same_answer = same_conforming π ok G.nodes (length G.edges) k hn hm hk p q μ ν (conforms G valid k π ok.sound p μ h a) (conforms G valid k π ok.sound q ν j b)

  -- the record of an answer is read off any words that begin with it
  pub answer_readable : (p : Walk) (μ : Assignment) → Meaning G π p μ → len p ≤ k → Readable (type_of π) (record_of_lem p μ)
  unfolding opened
  answer_readable p μ h a = record_size_is G.nodes (length G.edges) k hn hm hk (type_of π) ok.no_clash μ (conforms G valid k π ok.sound p μ h a) p
