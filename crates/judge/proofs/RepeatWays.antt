-- The loop over the steps of a path, with the masks of what it uses. Assumes nothing.
use mathlib.Core.Path.{◌≡◌, sym, ap, ap₂, ◌∙◌}
use mathlib.Core.Bool.{Bool, true, false}
use mathlib.Core.List.{List}
use Prim.Native.Nat.{ℕ, zero, suc, ◌+◌, ◌*◌, ◌<◌, ◌≤◌}
use native.Mathlib.Omega.{arith}
use native.Mathlib.Numerals.{add-one}
use lib.ListN.{drop, get_or}
use lib.Seq.{get_or-drop}
use Rattle.bits.proofs.Cases.{by_eqb}
use Rattle.matcher.proofs.Listed.{restricted_iff}
use Rattle.matcher.specs.Judge.{unrepeated}
use Rattle.meaning.proofs.Logic.{is_false}
use Rattle.meaning.specs.Answer.{Restricted}
use Rattle.meaning.specs.Graph.{Walk, stop}
use Rattle.path.proofs.Masks.{allowed_keeps, masked_stepped, refused_breaks}
use Rattle.path.proofs.Restricted.{restricted_stepped}
use Rattle.path.proofs.Spelled.{spelled_more}
use Rattle.path.specs.Masks.{Allowed, Masked, MasksGrown, base_of}
use Rattle.path.specs.Walks.{spelled, stepped}
use Rattle.path.specs.declared.base.Base.{Base}
use Rattle.path.specs.declared.used.Used.{Used}
use Rattle.judge.specs.Judging.{RepeatsNothing, Small, told}
use Rattle.judge.proofs.ToldWords.{told_spelled}

module _ (rec : List ℕ) (last : ℕ) (b : Base) where
  -- the first i steps of the path
  abbrev upto_step : ℕ → Walk
  upto_step i = spelled (drop 1 rec) 0 i

  -- one step more
  step_is : (i : ℕ) → upto_step (i + 1) ≡ stepped (upto_step i) (get_or rec (2 * i + 2) 0) (get_or rec (2 * i + 2 + 1) 0)
  step_is i =
      let n : 0 + i ≡ i = omega arith in
      let m : 1 + (2 * i + 1) ≡ 2 * i + 2 = omega arith in
      let k : 1 + (2 * i + 2) ≡ 2 * i + 2 + 1 = omega arith in
      ap upto_step (add-one i) ∙ (spelled_more (drop 1 rec) 0 i ∙ (ap (λ (j : ℕ). stepped (upto_step i) (get_or (drop 1 rec) (2 * j + 1) 0) (get_or (drop 1 rec) (2 * j + 2) 0)) n
      ∙ ap₂ (λ (x y : ℕ). stepped (upto_step i) x y) (get_or-drop 1 rec (2 * i + 1) 0 ∙ ap (λ (j : ℕ). get_or rec j 0) m) (get_or-drop 1 rec (2 * i + 2) 0 ∙ ap (λ (j : ℕ). get_or rec j 0) k)))

  -- the masks are those of the first i steps, which repeat nothing
  pub record Unrepeated (used : Used) (i : ℕ) : Type 0 where
    pub upto : i ≤ last
    pub masked : Small rec last → Masked (spelled (drop 1 rec) 0 i) used
    pub kept : Small rec last → Restricted (base_of b) (spelled (drop 1 rec) 0 i)

  pub unrepeated_none : (used : Used) → Masked (stop (get_or rec 1 0)) used → Unrepeated used 0
  unfolding spelled
  unrepeated_none used m = record {
    upto = omega arith;
    masked = λ s. let e : get_or rec 1 0 ≡ get_or (drop 1 rec) 0 0 = sym (get_or-drop 1 rec 0 0) in rw e at m;
    kept = λ s. tt;
  }

  -- what breaks the base breaks it in every longer path
  shorter_kept : (n i : ℕ) → i ≤ n → Restricted (base_of b) (upto_step n) → Restricted (base_of b) (upto_step i)
  shorter_kept zero i l h = let z : i ≡ 0 = omega arith in rw z h
  shorter_kept (suc n) i l h = by_eqb i (suc n) (λ e. rw e h)
      (λ ne. shorter_kept n i (omega arith) ((restricted_stepped (base_of b) (get_or rec (2 * n + 2) 0) (get_or rec (2 * n + 2 + 1) 0) (upto_step n)).0 (rw (sym (ap upto_step (add-one n)) ∙ step_is n) at h)).0)

  module _ (used : Used) (i : ℕ) (p : Unrepeated used i) (l : i < last) (r : Bool) (a : Allowed used b (get_or rec (2 * i + 2) 0) (get_or rec (2 * i + 2 + 1) 0) r) where
    edge_small : Small rec last → get_or rec (2 * i + 2) 0 < 256
    edge_small s = s.edge i l

    node_small : Small rec last → get_or rec (2 * i + 2 + 1) 0 < 256
    node_small s = let e : 2 * (i + 1) + 1 ≡ 2 * i + 2 + 1 = omega arith in rw e at (s.node (i + 1) (omega arith))

    pub unrepeated_more : (used' : Used) → r ≡ true → MasksGrown used (get_or rec (2 * i + 2) 0) (get_or rec (2 * i + 2 + 1) 0) used' → Unrepeated used' (i + 1)
    unrepeated_more used' e g = record {
      upto = omega arith;
      masked = λ s. rw (step_is i) (masked_stepped used (upto_step i) (p.masked s) (get_or rec (2 * i + 2) 0) (get_or rec (2 * i + 2 + 1) 0) used' g);
      kept = λ s. rw (step_is i) (allowed_keeps used (upto_step i) (p.masked s) (get_or rec (2 * i + 2) 0) (get_or rec (2 * i + 2 + 1) 0) b r a (edge_small s) (node_small s) e (p.kept s));
    }

    pub unrepeated_hit : r ≡ false → RepeatsNothing rec last b false
    unrepeated_hit e = record {
      is = λ s. sym (is_false (unrepeated (base_of b) (told rec last)) (λ q.
          refused_breaks used (upto_step i) (p.masked s) (get_or rec (2 * i + 2) 0) (get_or rec (2 * i + 2 + 1) 0) b r a (edge_small s) (node_small s) e
          (rw (step_is i) at (shorter_kept last (i + 1) (omega arith) (rw (told_spelled (drop 1 rec) 0 last) at ((restricted_iff (base_of b) (told rec last)).0 q))))));
    }

  pub unrepeated_all : (used : Used) (i : ℕ) → Unrepeated used i → last ≤ i → RepeatsNothing rec last b true
  unrepeated_all used i p l = let u : i ≤ last = p.upto in let z : i ≡ last = omega arith in
      record { is = λ s. sym ((restricted_iff (base_of b) (told rec last)).1 (rw (told_spelled (drop 1 rec) 0 last) (rw z at (p.kept s)))) }
