-- The judge, for any path and any assignment that conforms to the pattern's types: its yes to their record means that they are an answer.
use mathlib.Core.Path.{◌≡◌, fun_ext, refl}
use mathlib.Core.List.Memᴰ
use mathlib.Core.List.{List, ◌++◌}
use mathlib.Core.Option.{Option, none}
use mathlib.Core.Bool.{Bool, false, true}
use mathlib.Core.Logic.{◌↔◌, inl, inr}
use Prim.Native.Nat.{◌+◌, ◌<◌, ◌≤◌, ℕ}
use native.Mathlib.Omega.{arith}
use lib.ListN.{length, length-append}
use Rattle.meaning.proofs.Accepted.{Accepted, used_eight}
use Rattle.meaning.proofs.Conforming.{conforms}
use Rattle.meaning.proofs.Granted.{few_edges, few_nodes, granted, header_bound, path_few}
use Rattle.meaning.proofs.Judged.{judged, judged_answer}
use Rattle.meaning.proofs.Opened.{opened}
use Rattle.meaning.proofs.SameRecord.{same_conforming}
use Rattle.meaning.proofs.Unused.{unused→absent}
use Rattle.meaning.specs.Answer.{Answer, Restrictor, restrictor_of}
use Rattle.meaning.specs.Assignment.{AllOf, Assignment, Conforms, Entries, Of, Value, count, entry, no_entry}
use Rattle.meaning.specs.Basics.{◌∈◌, eight}
use Rattle.meaning.specs.FullListing.{fixed_fault, judge}
use Rattle.meaning.specs.Graph.{Graph, Walk}
use Rattle.meaning.specs.Image.{graph_of}
use Rattle.meaning.specs.Pattern.{Pattern, in_var}
use Rattle.meaning.specs.Record.{entries_words, path_words_lem, record_of_lem, slot_words_lem, value_words_lem, variable_words}
use Rattle.meaning.specs.Table.{pattern_of}
use Rattle.meaning.specs.Typing.{Edge, Found, Group, Maybe, Node, Ty, absent, clash, type_of, typed}

-- ------------------------------------------------------------------ a group has no more factors than words
entry_words : (p : Walk) (v : Value) (g : Entries) → length (entries_words (entry p v g)) ≡ length (path_words_lem p) + (length (value_words_lem v) + length (entries_words g))
unfolding opened
entry_words p v g = omega (arith, length-append (path_words_lem p) (value_words_lem v ++ entries_words g), length-append (value_words_lem v) (entries_words g))

count_words : (g : Entries) → count g ≤ length (entries_words g)
unfolding opened
count_words no_entry = omega arith
count_words (entry p v g) = omega (arith, entry_words p v g, count_words g)

slot_words : (μ : Assignment) {x : ℕ} {xs : List ℕ} → x ∈ xs → length (slot_words_lem (μ x)) ≤ length (variable_words xs μ)
unfolding opened
slot_words μ (Memᴰ.head {x = y} {xs = ys} e) = rw e (omega (arith, length-append (slot_words_lem (μ y)) (variable_words ys μ)))
slot_words μ (Memᴰ.tail {x = y} {xs = ys} m) = omega (arith, length-append (slot_words_lem (μ y)) (variable_words ys μ), slot_words μ m)

-- so a bound on the words bounds the groups
module _ (n m k b : ℕ) where
  entries_bounded : (τ : Ty) → ((v : Value) → Of n m k τ v → length (value_words_lem v) ≤ b → Of n m b τ v) → (g : Entries) → AllOf (Of n m k τ) g → length (entries_words g) ≤ b → AllOf (Of n m b τ) g
  unfolding opened
  entries_bounded τ f no_entry a h = tt
  entries_bounded τ f (entry p v g) a h = (f v a.0 (omega (arith, entry_words p v g)), entries_bounded τ f g a.1 (omega (arith, entry_words p v g)))

  pub bounded : (τ : Ty) (v : Value) → Of n m k τ v → length (value_words_lem v) ≤ b → Of n m b τ v
  unfolding opened
  bounded Node v o h = o
  bounded Edge v o h = o
  bounded (Maybe τ) v (inl q) h = inl q
  bounded (Maybe τ) v (inr o) h = inr (bounded τ v o h)
  bounded (Group τ) v (g, c, a, q) h =
      let l : length (entries_words g) < b = rw q at h in
      (g, omega (arith, count_words g), entries_bounded τ (bounded τ) g a (omega arith), q)

  slot_bounded : (f : Found) (o : Option Value) → Conforms n m k f o → length (slot_words_lem o) ≤ b → Conforms n m b f o
  unfolding opened
  slot_bounded absent o c h = c
  slot_bounded clash o c h = tt
  slot_bounded (typed τ) o (v, q, a) h = let l : length (value_words_lem v) ≤ b = rw q at h in (v, q, bounded τ v a l)

  record_bounded : (π : Pattern) → Accepted π → (p : Walk) (μ : Assignment) → ((x : ℕ) → Conforms n m k (type_of π x) (μ x)) → length (record_of_lem p μ) ≤ b → (x : ℕ) → Conforms n m b (type_of π x) (μ x)
  unfolding opened
  record_bounded π ok p μ c h x = go (in_var π x) refl
    where
      go : (u : Bool) → in_var π x ≡ u → Conforms n m b (type_of π x) (μ x)
      go true e = slot_bounded (type_of π x) (μ x) (c x) (omega (arith, slot_words μ (used_eight π ok x e), length-append (path_words_lem p) (variable_words eight μ)))
      go false e = let a : type_of π x ≡ absent = unused→absent π x e in rw a (rw a at (c x))

-- ------------------------------------------------------------------ the judge's yes
-- equal at every variable, so the same assignment
moved : {G : Graph} {ρ : Restrictor} {π : Pattern} {p q : Walk} {μ ν : Assignment} → p ≡ q → ((x : ℕ) → μ x ≡ ν x) → Answer G ρ π q ν → Answer G ρ π p μ
moved {μ = μ} {ν = ν} e f a = let g : μ ≡ ν = fun_ext f in rw (e, g) a

-- k bounds the factors of a group, and any k will do: a listed record is too short for a group of 65,535, which would begin like Nothing
pub judged_assignment : (image pattern : List ℕ) (n : ℕ) → fixed_fault image pattern n ≡ none → (k : ℕ) (p : Walk) (μ : Assignment) → ((x : ℕ) → Conforms (graph_of image).nodes (length (graph_of image).edges) k (type_of (pattern_of pattern) x) (μ x)) → (judge image pattern n (record_of_lem p μ) ≡ true) ↔ Answer (graph_of image) (restrictor_of n) (pattern_of pattern) p μ
unfolding opened
judged_assignment image pattern n ok k p μ c = (there, back)
  where
    there : judge image pattern n (record_of_lem p μ) ≡ true → Answer (graph_of image) (restrictor_of n) (pattern_of pattern) p μ
    there e =
        let G = graph_of image in
        let π = pattern_of pattern in
        let g = granted image pattern n ok in
        let h = (judged_answer image pattern n ok (record_of_lem p μ)).0 e in
        let short = header_bound image pattern n ok (record_of_lem p μ) ((judged image pattern n (record_of_lem p μ)).0 e) in
        let d = conforms G g.read.valid 16410 π g.accepted.sound h.path h.assignment h.answer.base_answer.means (omega (arith, path_few image pattern n ok h.path h.assignment h.answer)) in
        let s = same_conforming π g.accepted G.nodes (length G.edges) 16410 (omega (arith, few_nodes image pattern n ok)) (omega (arith, few_edges image pattern n ok)) (omega arith)
        p h.path μ h.assignment (record_bounded G.nodes (length G.edges) k 16410 π g.accepted p μ c short) d h.record_is in
        moved s.0 s.1 h.answer

    back : Answer (graph_of image) (restrictor_of n) (pattern_of pattern) p μ → judge image pattern n (record_of_lem p μ) ≡ true
    back a = (judged_answer image pattern n ok (record_of_lem p μ)).1 (record { path = p; assignment = μ; answer = a; record_is = refl })
