-- The computed answers are the answers of Section 5's queries, both ways: trail, simple, and the shortest of either.
use mathlib.Core.Path.{◌≡◌, ap₂, refl}
use mathlib.Core.List.Memᴰ
use mathlib.Core.List.{List, [], ◌∷◌, map}
use mathlib.Core.Bool.{Bool, ◌&&◌, false, not, true}
use mathlib.Core.Logic.{◌↔◌}
use Prim.Native.Nat.{◌<◌, ◌≤◌}
use native.Mathlib.Omega.{arith}
use lib.Dec.{eqb, ltb}
use borrow.Author.Tests.{eq-eqb, eqb-true, lt-ltb, ltb-false, ltb-true}
use Rattle.meaning.proofs.Assignments.{assignments_iff}
use Rattle.meaning.proofs.InGraph.{in_graph}
use Rattle.meaning.proofs.Logic.{and_l, and_r, either, no_false, not_both, or_cases, or_l, or_r}
use Rattle.meaning.proofs.Members.{each←, each→, keep←, keep→}
use Rattle.meaning.proofs.Opened.{opened}
use Rattle.meaning.proofs.Paths.{paths←, paths→}
use Rattle.meaning.specs.Answer.{Answer, Base, BaseAnswer, Least, Restrictor, Shortest, answers, base_answers, beaten, paths, shortest_of_lem}
use Rattle.meaning.specs.Assignment.{Assignment}
use Rattle.meaning.specs.Basics.{◌∈◌}
use Rattle.meaning.specs.Graph.{Graph, Valid, Walk, len, src, tgt}
use Rattle.meaning.specs.Meaning.{assignments}
use Rattle.meaning.specs.Pattern.{Pattern, Sound}

module _ (G : Graph) (valid : Valid G) (π : Pattern) (sound : Sound π) where
  base→ : (ρ : Base) (a : Walk × Assignment) → a ∈ base_answers ρ G π → BaseAnswer G ρ π a.0 a.1
  unfolding opened
  base→ ρ a m =
      let b = each→ (paths ρ G) (λ p. map (λ μ. (p, μ)) (assignments G π p)) m in
      let w = Memᴰ.of_map (λ (μ : Assignment). (b.0, μ)) (assignments G π b.0) b.2 in
      rw (← w.2) (record { means = (assignments_iff G π sound b.0 w.0).0 w.1; restricted = (paths→ G ρ b.0 b.1).1 })

  base← : (ρ : Base) (p : Walk) (μ : Assignment) → BaseAnswer G ρ π p μ → (p, μ) ∈ base_answers ρ G π
  unfolding opened
  base← ρ p μ h = each← (λ q. map (λ ν. (q, ν)) (assignments G π q)) (paths← G ρ p (in_graph G valid π p μ h.means) h.restricted) (Memᴰ.map (λ (ν : Assignment). (p, ν)) ((assignments_iff G π sound p μ).1 h.means))

  beaten→ : (p : Walk) (l : List (Walk × Assignment)) → beaten p l ≡ true → (a : Walk × Assignment) × (a ∈ l) × (src a.0 ≡ src p) × (tgt a.0 ≡ tgt p) × (len a.0 < len p)
  unfolding opened
  beaten→ p [] h = no_false h
  beaten→ p (a ∷ l) h = either (or_cases (eqb (src a.0) (src p) && (eqb (tgt a.0) (tgt p) && ltb (len a.0) (len p))) (beaten p l) h)
      (λ q. let k = and_r (eqb (src a.0) (src p)) (eqb (tgt a.0) (tgt p) && ltb (len a.0) (len p)) q in (
        a,
        Memᴰ.head refl,
        eqb-true (src a.0) (src p) (and_l (eqb (src a.0) (src p)) (eqb (tgt a.0) (tgt p) && ltb (len a.0) (len p)) q),
        eqb-true (tgt a.0) (tgt p) (and_l (eqb (tgt a.0) (tgt p)) (ltb (len a.0) (len p)) k),
        ltb-true (len a.0) (len p) (and_r (eqb (tgt a.0) (tgt p)) (ltb (len a.0) (len p)) k),
      ))
      (λ q. let k = beaten→ p l q in (k.0, Memᴰ.tail k.1, k.2, k.3, k.4))

  beaten← : (p : Walk) (a : Walk × Assignment) {l : List (Walk × Assignment)} → a ∈ l → src a.0 ≡ src p → tgt a.0 ≡ tgt p → len a.0 < len p → beaten p l ≡ true
  unfolding opened
  beaten← p a (Memᴰ.head {x = b} {xs = l} e) h k n =
      or_l (eqb (src b.0) (src p) && (eqb (tgt b.0) (tgt p) && ltb (len b.0) (len p))) (beaten p l)
      (rw e at (ap₂ ◌&&◌ (eq-eqb (src a.0) (src p) h) (ap₂ ◌&&◌ (eq-eqb (tgt a.0) (tgt p) k) (lt-ltb (len a.0) (len p) n))))
  beaten← p a (Memᴰ.tail {x = b} {xs = l} m) h k n = or_r (eqb (src b.0) (src p) && (eqb (tgt b.0) (tgt p) && ltb (len b.0) (len p))) (beaten p l) (beaten← p a m h k n)

  least→ : (ρ : Base) (p : Walk) → not (beaten p (base_answers ρ G π)) ≡ true → Least G ρ π p
  unfolding opened
  least→ ρ p h q ν r e f = go (ltb (len q) (len p)) refl
    where
      go : (b : Bool) → ltb (len q) (len p) ≡ b → len p ≤ len q
      go true t = absurd (not_both (beaten p (base_answers ρ G π)) h (beaten← p (q, ν) (base← ρ q ν r) e f (ltb-true (len q) (len p) t)))
      go false t = ltb-false (len q) (len p) t

  least← : (ρ : Base) (p : Walk) → Least G ρ π p → not (beaten p (base_answers ρ G π)) ≡ true
  unfolding opened
  least← ρ p h = go (beaten p (base_answers ρ G π)) refl
    where
      go : (b : Bool) → beaten p (base_answers ρ G π) ≡ b → not b ≡ true
      go true t =
          let k = beaten→ p (base_answers ρ G π) t in
          let z : len p ≤ len k.0.0 = h k.0.0 k.0.1 (base→ ρ k.0 k.1) k.2 k.3 in
          absurd (omega (arith, k.4))
      go false t = refl

  shortest→ : (s : Bool) (ρ : Base) (a : Walk × Assignment) → a ∈ shortest_of_lem s (base_answers ρ G π) → (a ∈ base_answers ρ G π) × Shortest s G ρ π a.0
  unfolding opened
  shortest→ true ρ a m = let h = keep→ (λ b. not (beaten b.0 (base_answers ρ G π))) (base_answers ρ G π) m in (h.0, least→ ρ a.0 h.1)
  shortest→ false ρ a m = (m, tt)

  shortest← : (s : Bool) (ρ : Base) (a : Walk × Assignment) → a ∈ base_answers ρ G π → Shortest s G ρ π a.0 → a ∈ shortest_of_lem s (base_answers ρ G π)
  unfolding opened
  shortest← true ρ a m k = keep← (λ b. not (beaten b.0 (base_answers ρ G π))) m (least← ρ a.0 k)
  shortest← false ρ a m k = m

  answers→ : (ρ : Restrictor) (p : Walk) (μ : Assignment) → (p, μ) ∈ answers G ρ π → Answer G ρ π p μ
  unfolding opened
  answers→ ρ p μ m = let k = shortest→ ρ.shortest ρ.base (p, μ) m in record { base_answer = base→ ρ.base (p, μ) k.0; shortest = k.1 }

  answers← : (ρ : Restrictor) (p : Walk) (μ : Assignment) → Answer G ρ π p μ → (p, μ) ∈ answers G ρ π
  unfolding opened
  answers← ρ p μ h = shortest← ρ.shortest ρ.base (p, μ) (base← ρ.base p μ h.base_answer) h.shortest

  pub answers_iff : (ρ : Restrictor) (p : Walk) (μ : Assignment) → ((p, μ) ∈ answers G ρ π) ↔ Answer G ρ π p μ
  unfolding opened
  answers_iff ρ p μ = (answers→ ρ p μ, answers← ρ p μ)
