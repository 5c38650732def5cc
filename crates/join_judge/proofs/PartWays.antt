-- The own words of the parts, judged: the ways through the code.
use mathlib.Core.Path.{◌∙◌, ◌≡◌, ap, ap₂, refl, sym}
use mathlib.Core.List.Memᴰ
use mathlib.Core.List.{List, [], ◌++◌, ◌∷◌}
use mathlib.Core.Bool.{Bool, false, not, true}
use Prim.Native.Nat.{◌+◌, ◌-◌, ◌<◌, ◌≤◌, suc, ℕ}
use native.Mathlib.Nat.{suc_inj}
use native.Mathlib.Omega.{arith}
use lib.Dec.{eqb}
use lib.ListN.{drop, length, length-append, take}
use borrow.Author.Tests.{eqb-false, eqb-true}
use Rattle.compiled.specs.Derived.{plan_words}
use Rattle.compiled.specs.Words.{graph_in}
use Rattle.join_judge.specs.Judging.{Laid, PartJudged, PartsJudged, SomeLaid, own_words}
use Rattle.join_judge.specs.Own.{OwnWritten, SomeValued, Valued}
use Rattle.join_judge.specs.Paths.{HasPath, SpanIs}
use Rattle.joins.proofs.PathLevel.{part_listing_lem}
use Rattle.joins.proofs.ValueLevel.{AllWhole}
use Rattle.joins.specs.Projected.{found_in, project, uses}
use Rattle.judge.specs.Judging.{Judges}
use Rattle.meaning.proofs.Logic.{no_false, no_true, not_false, not_true}
use Rattle.meaning.specs.Basics.{◌∈◌, each, eight}
use Rattle.meaning.specs.Graph.{Graph, Walk}
use Rattle.meaning.specs.Pattern.{Pattern, in_var}
use Rattle.meaning.specs.QueryWords.{Part}
use Rattle.meaning.specs.Record.{path_words_lem}
use Rattle.meaning.specs.Typing.{Found}
use Rattle.parts.proofs.PlanLaws.{part_listing}
use Rattle.parts.proofs.Splits.{split_at}
use Rattle.parts.specs.Pieces.{piece}
use Rattle.parts.specs.Plans.{PartPlan, PlanReady}
use Rattle.parts.specs.declared.shape.Shape.{Shape}
use Rattle.plan.specs.Ready.{Ready}

-- ------------------------------------------------------------------ what a part is given
module _ (graph plans words : List ℕ) (shape : Shape) (end i : ℕ) (s : SomeLaid graph plans words shape end) where
  pub path_there : i < shape.parts → HasPath words i
  path_there l = record { count = shape.parts; more = l; has = record { end = end; begun = record { paths = s.paths; paths_are = s.laid.paths_are } } }

  pub path_before : (from to : ℕ) → i < shape.parts → SpanIs words i from to → to ≤ end
  path_before from to l h = h.within shape.parts end s.paths s.laid.paths_are l

  pub paths_inside : end ≤ length words
  paths_inside = let p = s.laid.paths_are in omega (arith, ap length p.words_are, length-append (each s.paths path_words_lem) (drop end words), p.end_is)

  valued : (l : List Part) (ps : List Walk) (rest : List ℕ) → Laid graph plans words shape end l ps rest → Valued words shape.types end (found_in l)
  valued l ps rest h = record { types_are = h.shape_is.type_is; rest = rest; ends = h.ends }

  pub some_valued : SomeValued words shape.types end
  some_valued = record { found = found_in s.query; valued = valued s.query s.paths s.rest s.laid }

  module _ (plan : List ℕ) (plan_is : plan ≡ piece plan_words i plans) where
    part_plan : (l : List Part) (ps : List Walk) (rest : List ℕ) → Laid graph plans words shape end l ps rest → (l₀ : List Part) (a : Part) (l₁ : List Part) → l ≡ l₀ ++ a ∷ l₁ → length l₀ ≡ i → PartPlan graph plan a
    part_plan l ps rest h l₀ a l₁ e n = rw (plan_is, ← n) (h.planned.part l₀ a l₁ e)

    pub part_ready : i < shape.parts → Ready graph plan
    part_ready l =
        let (l₀, a, l₁, e, n) = split_at s.query i (omega (arith, s.laid.shape_is.parts_is)) in
        (part_plan s.query s.paths s.rest s.laid l₀ a l₁ e n).ready

    pub plan_ready : i < shape.parts → PlanReady plan
    plan_ready l = record { graph = graph; ready = part_ready l }

    module _ (from to n : ℕ) (own : List ℕ) (r : Bool) (span : SpanIs words i from to) (written : OwnWritten plan words shape.types from to end own n) (judged : Judges graph plan (take (n - 0) (drop 0 own)) r) where
      own_is : (l : List Part) (ps : List Walk) (rest : List ℕ) → Laid graph plans words shape end l ps rest → (l₀ : List Part) (a : Part) (l₁ : List Part) → l ≡ l₀ ++ a ∷ l₁ → length l₀ ≡ i →
          (ps₀ : List Walk) (p : Walk) (ps₁ : List Walk) → ps ≡ ps₀ ++ p ∷ ps₁ → length ps₀ ≡ i → take (n - 0) (drop 0 own) ≡ own_words words end l a p
      unfolding uses
      own_is l ps rest h l₀ a l₁ e c ps₀ p ps₁ q d =
          let z : n - 0 ≡ n = omega arith in
          ap (λ (k : ℕ). take k own) z ∙ (written.is (found_in l) (valued l ps rest h)
          ∙ ap₂ ◌++◌ (span.is shape.parts end ps₀ p ps₁ (rw (← q) h.paths_are) d) (ap (λ (π : Pattern). project (in_var π) (found_in l) eight (drop end words)) (part_plan l ps rest h l₀ a l₁ e c).pattern_is))

      pub part_judged : PartJudged graph plans words shape end i r
      part_judged = record {
        yes_is = λ y l ps rest h l₀ a l₁ e c ps₀ p ps₁ q d.
            Memᴰ.cast (sym (own_is l ps rest h l₀ a l₁ e c ps₀ p ps₁ q d)) (rw (part_listing graph plan a (part_plan l ps rest h l₀ a l₁ e c)) at (judged.yes_is y));
        no_is = λ y l ps rest h l₀ a l₁ e c ps₀ p ps₁ q d m.
            judged.no_is y (rw (part_listing graph plan a (part_plan l ps rest h l₀ a l₁ e c)) (Memᴰ.cast (own_is l ps rest h l₀ a l₁ e c ps₀ p ps₁ q d) m));
      }

-- ------------------------------------------------------------------ all parts
-- one after another
all_whole : (G : Graph) (f : ℕ → Found) (ks : List ℕ) (l : List Part) (ps : List Walk) → length ps ≡ length l →
    ((l₀ : List Part) (a : Part) (l₁ : List Part) → l ≡ l₀ ++ a ∷ l₁ → (ps₀ : List Walk) (p : Walk) (ps₁ : List Walk) → ps ≡ ps₀ ++ p ∷ ps₁ → length ps₀ ≡ length l₀ → (path_words_lem p ++ project (uses a) f eight ks) ∈ part_listing_lem G a) → AllWhole G f l ps ks
all_whole G f ks [] [] n h = tt
all_whole G f ks [] (p ∷ ps) n h = absurd (omega arith)
all_whole G f ks (a ∷ l) [] n h = absurd (omega arith)
all_whole G f ks (a ∷ l) (p ∷ ps) n h = (
  h [] a l refl [] p ps refl refl,
  all_whole G f ks l ps (suc_inj n) (λ l₀ b l₁ e ps₀ q ps₁ i c. h (a ∷ l₀) b l₁ (ap (λ (k : List Part). a ∷ k) e) (p ∷ ps₀) q ps₁ (ap (λ (k : List Walk). p ∷ k) i) (ap suc c)),
)

whole_at : (G : Graph) (f : ℕ → Found) (ks : List ℕ) (l₀ : List Part) (a : Part) (l₁ : List Part) (ps₀ : List Walk) (p : Walk) (ps₁ : List Walk) → length ps₀ ≡ length l₀ → AllWhole G f (l₀ ++ a ∷ l₁) (ps₀ ++ p ∷ ps₁) ks → (path_words_lem p ++ project (uses a) f eight ks) ∈ part_listing_lem G a
whole_at G f ks [] a l₁ [] p ps₁ n h = h.0
whole_at G f ks [] a l₁ (q ∷ ps₀) p ps₁ n h = absurd (omega arith)
whole_at G f ks (b ∷ l₀) a l₁ [] p ps₁ n h = absurd (omega arith)
whole_at G f ks (b ∷ l₀) a l₁ (q ∷ ps₀) p ps₁ n h = whole_at G f ks l₀ a l₁ ps₀ p ps₁ (suc_inj n) h.1

-- the own words of the first i parts are records
pub record UpTo (graph plans words : List ℕ) (shape : Shape) (end : ℕ) (work : List ℕ) (i : ℕ) : Type 0 where
  pub within : i ≤ shape.parts
  pub long : length work ≡ 20000
  pub so_far : (j : ℕ) → j < i → PartJudged graph plans words shape end j true

module _ (graph plans words : List ℕ) (shape : Shape) (end : ℕ) where
  pub parts_none : (work : List ℕ) → length work ≡ 20000 → UpTo graph plans words shape end work 0
  parts_none work e = record { within = omega arith; long = e; so_far = λ j h. absurd (omega arith) }

  module _ (work : List ℕ) (i : ℕ) (u : UpTo graph plans words shape end work i) where
    pub parts_more : (work' : List ℕ) (r : Bool) → length work' ≡ length work → i < shape.parts → PartJudged graph plans words shape end i r → not r ≡ false → UpTo graph plans words shape end work' (i + 1)
    parts_more work' r same l h t = record { within = omega arith; long = omega (arith, u.long); so_far = λ j k. go j k (eqb j i) refl }
      where
        go : (j : ℕ) → j < i + 1 → (b : Bool) → eqb j i ≡ b → PartJudged graph plans words shape end j true
        go j k true q = rw (eqb-true j i q, ← not_false r t) h
        go j k false q = let z : j ≡ i → ⊥ = eqb-false j i q in u.so_far j (omega arith)

    pub parts_out : (r : Bool) → i < shape.parts → PartJudged graph plans words shape end i r → not r ≡ true → PartsJudged graph plans words shape end false
    parts_out r k h t = record {
      yes_is = λ e. no_false e;
      no_is = λ e l ps rest d w.
          let (l₀, a, l₁, l_is, n) = split_at l i (omega (arith, d.shape_is.parts_is)) in
          let (ps₀, p, ps₁, ps_is, m) = split_at ps i (omega (arith, d.paths_are.count)) in
          h.no_is (not_true r t) l ps rest d l₀ a l₁ l_is n ps₀ p ps₁ ps_is m (whole_at (graph_in graph) (found_in l) (drop end words) l₀ a l₁ ps₀ p ps₁ (m ∙ sym n) (moved l ps l₀ a l₁ l_is ps₀ p ps₁ ps_is w));
    }
      where
        at_lists : (f : ℕ → Found) {l l' : List Part} {ps ps' : List Walk} → l ≡ l' → ps ≡ ps' → AllWhole (graph_in graph) f l ps (drop end words) → AllWhole (graph_in graph) f l' ps' (drop end words)
        at_lists f e i w = rw (← e, ← i) w

        moved : (l : List Part) (ps : List Walk) (l₀ : List Part) (a : Part) (l₁ : List Part) → l ≡ l₀ ++ a ∷ l₁ → (ps₀ : List Walk) (p : Walk) (ps₁ : List Walk) → ps ≡ ps₀ ++ p ∷ ps₁ →
            AllWhole (graph_in graph) (found_in l) l ps (drop end words) → AllWhole (graph_in graph) (found_in l) (l₀ ++ a ∷ l₁) (ps₀ ++ p ∷ ps₁) (drop end words)
        moved l ps l₀ a l₁ e ps₀ p ps₁ i w = at_lists (found_in l) e i w

    pub parts_all : shape.parts ≤ i → PartsJudged graph plans words shape end true
    parts_all k = record {
      yes_is = λ e l ps rest d. all_whole (graph_in graph) (found_in l) (drop end words) l ps (d.paths_are.count ∙ d.shape_is.parts_is) (λ l₀ a l₁ l_is ps₀ p ps₁ ps_is c.
          (u.so_far (length l₀) (omega (arith, u.within, d.shape_is.parts_is, ap length l_is, length-append l₀ (a ∷ l₁)))).yes_is refl l ps rest d l₀ a l₁ l_is refl ps₀ p ps₁ ps_is c);
      no_is = λ e. no_true e;
    }
