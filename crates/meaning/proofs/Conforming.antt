-- Proposition 9, second half: the assignment of an answer conforms to the schema.
use mathlib.Core.Path.{◌∙◌, ◌≡◌, ap, refl}
use mathlib.Core.List.{List, [], ◌∷◌, map}
use mathlib.Core.Option.{Option, none, some}
use mathlib.Core.Bool.{Bool, false, true}
use mathlib.Core.Logic.{inl, inr}
use Prim.Native.Nat.{◌+◌, ◌≤◌, suc, ℕ}
use native.Mathlib.Omega.{arith}
use lib.Dec.{eqb}
use lib.ListN.{length}
use Rattle.meaning.proofs.Assignments.{has_an_edge}
use Rattle.meaning.proofs.Factors.{NonEmpty}
use Rattle.meaning.proofs.InGraph.{goes_found}
use Rattle.meaning.proofs.Logic.{all_both, all_map, either, or_false_l}
use Rattle.meaning.proofs.Opened.{opened}
use Rattle.meaning.proofs.Size.{len_append, non_empty_len}
use Rattle.meaning.proofs.Unused.{absent→unused, typed→used, unused→absent}
use Rattle.meaning.specs.Assignment.{AllOf, Assignment, Conforms, Factor, Of, Value, bind, count, entries, group, nothing, one, path_of_lem, value_of}
use Rattle.std.specs.Prelude.{if◌then◌else◌}
use Rattle.meaning.specs.Basics.{All, or_else}
use Rattle.meaning.specs.Graph.{Graph, Valid, Walk, len, the_edge, the_node}
use Rattle.meaning.specs.Meaning.{Meaning, Product}
use Rattle.meaning.specs.Pattern.{Pattern, Sound, concatenation, conditioned, edge, in_condition, in_var, named, node, repetition, union}
use Rattle.meaning.specs.Typing.{Edge, Found, Group, Maybe, Node, Ty, Ty-discrete, absent, clash, concatenation_ty, conditioned_ty, fits, join_ty, named_ty, opt, repetition_ty, type_of, typed, union_ty}

pub count_entries : (x : ℕ) (fs : List Factor) → count (entries x fs) ≡ length fs
unfolding opened
count_entries x [] = refl
count_entries x (f ∷ fs) = ap suc (count_entries x fs)

module _ (n m k : ℕ) where
  opt_of : (τ : Ty) (v : Value) → Of n m k τ v → Of n m k (opt τ) v
  unfolding opened
  opt_of Node v o = inr o
  opt_of Edge v o = inr o
  opt_of (Maybe τ) v o = o
  opt_of (Group τ) v o = inr o

  opt_nothing : (τ : Ty) → Of n m k (opt τ) nothing
  unfolding opened
  opt_nothing Node = inl refl
  opt_nothing Edge = inl refl
  opt_nothing (Maybe τ) = inl refl
  opt_nothing (Group τ) = inl refl

  bind_conf : (y : Option ℕ) (x : ℕ) (τ : Ty) (v : Value) → Of n m k τ v → Conforms n m k (named_ty τ (named y x)) (bind y v x)
  unfolding opened
  bind_conf none x τ v o = refl
  bind_conf (some y) x τ v o = go (eqb y x)
    where
      go : (b : Bool) → Conforms n m k (named_ty τ b) (if b then some v else none)
      go true = (v, refl, o)
      go false = refl

  meet_left : (τ σ : Ty) (d : Dec (τ ≡ σ)) (d₂ : Dec (σ ≡ Maybe τ)) (d₃ : Dec (τ ≡ Maybe σ)) (v : Value) → Of n m k τ v → Conforms n m k (join_ty τ σ d d₂ d₃) (some v)
  unfolding opened
  meet_left τ σ (yes p) d₂ d₃ v a = (v, refl, a)
  meet_left τ σ (no p) (yes q) d₃ v a = (v, refl, rw q (inr a))
  meet_left τ σ (no p) (no q) (yes r) v a = (v, refl, a)
  meet_left τ σ (no p) (no q) (no r) v a = tt

  meet_right : (τ σ : Ty) (d : Dec (τ ≡ σ)) (d₂ : Dec (σ ≡ Maybe τ)) (d₃ : Dec (τ ≡ Maybe σ)) (v : Value) → Of n m k σ v → Conforms n m k (join_ty τ σ d d₂ d₃) (some v)
  unfolding opened
  meet_right τ σ (yes p) d₂ d₃ v a = (v, refl, rw p a)
  meet_right τ σ (no p) (yes q) d₃ v a = (v, refl, a)
  meet_right τ σ (no p) (no q) (yes r) v a = (v, refl, rw r (inr a))
  meet_right τ σ (no p) (no q) (no r) v a = tt

  -- a union's variable: o is its value in the part that matched, b says that the union uses it
  union_left : (f g : Found) (o : Option Value) (b : Bool) → (union_ty f g ≡ absent → b ≡ false) → ((τ : Ty) → union_ty f g ≡ typed τ → b ≡ true) → Conforms n m k f o → Conforms n m k (union_ty f g) (or_else o (if b then some nothing else none))
  unfolding opened
  union_left absent absent o b h h₂ c = rw (c, h refl) refl
  union_left absent clash o b h h₂ c = tt
  union_left absent (typed σ) o b h h₂ c = rw (c, h₂ (opt σ) refl) (nothing, refl, opt_nothing σ)
  union_left clash absent o b h h₂ c = tt
  union_left clash clash o b h h₂ c = tt
  union_left clash (typed σ) o b h h₂ c = tt
  union_left (typed τ) absent o b h h₂ (v, q, a) = rw q (v, refl, opt_of τ v a)
  union_left (typed τ) clash o b h h₂ c = tt
  union_left (typed τ) (typed σ) o b h h₂ (v, q, a) = rw q (meet_left τ σ (Ty-discrete τ σ) (Ty-discrete σ (Maybe τ)) (Ty-discrete τ (Maybe σ)) v a)

  union_right : (f g : Found) (o : Option Value) (b : Bool) → (union_ty f g ≡ absent → b ≡ false) → ((τ : Ty) → union_ty f g ≡ typed τ → b ≡ true) → Conforms n m k g o → Conforms n m k (union_ty f g) (or_else o (if b then some nothing else none))
  unfolding opened
  union_right absent absent o b h h₂ c = rw (c, h refl) refl
  union_right absent clash o b h h₂ c = tt
  union_right absent (typed σ) o b h h₂ (v, q, a) = rw q (v, refl, opt_of σ v a)
  union_right clash absent o b h h₂ c = tt
  union_right clash clash o b h h₂ c = tt
  union_right clash (typed σ) o b h h₂ c = tt
  union_right (typed τ) absent o b h h₂ c = rw (c, h₂ (opt τ) refl) (nothing, refl, opt_nothing τ)
  union_right (typed τ) clash o b h h₂ c = tt
  union_right (typed τ) (typed σ) o b h h₂ (v, q, a) = rw q (meet_right τ σ (Ty-discrete τ σ) (Ty-discrete σ (Maybe τ)) (Ty-discrete τ (Maybe σ)) v a)

  pub concatenation_conf : (f g : Found) (o o' : Option Value) → Conforms n m k f o → Conforms n m k g o' → Conforms n m k (concatenation_ty f g) (or_else o o')
  unfolding opened
  concatenation_conf absent g o o' c c' = rw c c'
  concatenation_conf clash g o o' c c' = tt
  concatenation_conf (typed τ) absent o o' (v, q, a) c' = rw q (v, refl, a)
  concatenation_conf (typed τ) clash o o' c c' = tt
  concatenation_conf (typed Node) (typed Node) o o' (v, q, a) c' = rw q (v, refl, a)
  concatenation_conf (typed Node) (typed Edge) o o' c c' = tt
  concatenation_conf (typed Node) (typed (Maybe σ)) o o' c c' = tt
  concatenation_conf (typed Node) (typed (Group σ)) o o' c c' = tt
  concatenation_conf (typed Edge) (typed Edge) o o' (v, q, a) c' = rw q (v, refl, a)
  concatenation_conf (typed Edge) (typed Node) o o' c c' = tt
  concatenation_conf (typed Edge) (typed (Maybe σ)) o o' c c' = tt
  concatenation_conf (typed Edge) (typed (Group σ)) o o' c c' = tt
  concatenation_conf (typed (Maybe τ)) (typed σ) o o' c c' = tt
  concatenation_conf (typed (Group τ)) (typed σ) o o' c c' = tt

  value_of_law : (τ : Ty) (o : Option Value) → Conforms n m k (typed τ) o → Of n m k τ (value_of o)
  unfolding opened
  value_of_law τ o (v, q, a) = rw q a

  entries_of : (τ : Ty) (x : ℕ) (fs : List Factor) → All (λ f. Conforms n m k (typed τ) (f.1 x)) fs → AllOf (Of n m k τ) (entries x fs)
  unfolding opened
  entries_of τ x [] h = tt
  entries_of τ x (f ∷ fs) h = (value_of_law τ (f.1 x) h.0, entries_of τ x fs h.1)

  repetition_conf : (f : Found) (b : Bool) (x : ℕ) (fs : List Factor) → (f ≡ absent → b ≡ false) → ((τ : Ty) → f ≡ typed τ → b ≡ true) → length fs ≤ k → All (λ g. Conforms n m k f (g.1 x)) fs → Conforms n m k (repetition_ty f) (if b then some (group (entries x fs)) else none)
  unfolding opened
  repetition_conf absent b x fs h h₂ l a = rw (h refl) refl
  repetition_conf clash b x fs h h₂ l a = tt
  repetition_conf (typed τ) b x fs h h₂ l a = rw (h₂ τ refl) (group (entries x fs), refl, (entries x fs, omega (arith, count_entries x fs), entries_of τ x fs a, refl))

  conditioned_conf : (t u : Bool) (f : Found) (o : Option Value) → (u ≡ false → o ≡ none) → Conforms n m k f o → Conforms n m k (conditioned_ty t f u) o
  unfolding opened
  conditioned_conf true u f o h c = c
  conditioned_conf false true f o h c = tt
  conditioned_conf false false f o h c = h refl

-- factors that have an edge are no more than the edges
pub factors_few : (G : Graph) (fs : List Factor) (p : Walk) → All (λ f. NonEmpty f.0) fs → Product G (map path_of_lem fs) p → length fs ≤ len p
unfolding opened
factors_few G [] p n h = omega arith
factors_few G (f ∷ fs) p n h = omega (arith, factors_few G fs h.0 n.1 h.1, non_empty_len f.0 n.0, ap len h.3, len_append f.0 h.0)

module _ (G : Graph) (valid : Valid G) (k : ℕ) where
  abbrev Fit : Found → Option Value → Type 0
  Fit f o = Conforms G.nodes (length G.edges) k f o

  -- no factor is longer than the whole
  factors_short : (fs : List Factor) (p : Walk) → Product G (map path_of_lem fs) p → len p ≤ k → All (λ f. len f.0 ≤ k) fs
  unfolding opened
  factors_short [] p h l = tt
  factors_short (f ∷ fs) p h l = (omega (arith, ap len h.3, len_append f.0 h.0), factors_short fs h.0 h.1 (omega (arith, ap len h.3, len_append f.0 h.0)))

  at : {μ ν : Assignment} (f : Found) (x : ℕ) → μ ≡ ν → Fit f (ν x) → Fit f (μ x)
  unfolding opened
  at f x e h = rw e h

  pub conforms : (π : Pattern) → Sound π → (p : Walk) (μ : Assignment) → Meaning G π p μ → len p ≤ k → (x : ℕ) → Fit (type_of π x) (μ x)
  unfolding opened
  conforms (node y l) s p μ h b x = at (type_of (node y l) x) x h.assignment_is (bind_conf G.nodes (length G.edges) k y x Node (one (the_node h.n)) (h.n, h.is_node, refl))
  conforms (edge d y l) s p μ h b x = at (type_of (edge d y l) x) x h.assignment_is (bind_conf G.nodes (length G.edges) k y x Edge (one (the_edge h.e)) (h.e, (goes_found G valid d h.e h.u₁ h.u₂ h.connects).at, refl))
  conforms (union a c) s p μ h b x = at (type_of (union a c) x) x h.assignment_is (either h.either
      (λ r. union_left G.nodes (length G.edges) k (type_of a x) (type_of c x) (h.ν x) (in_var (union a c) x) (absent→unused (union a c) x) (λ τ e. typed→used (union a c) x e) (conforms a s.0 p h.ν r b x))
      (λ r. union_right G.nodes (length G.edges) k (type_of a x) (type_of c x) (h.ν x) (in_var (union a c) x) (absent→unused (union a c) x) (λ τ e. typed→used (union a c) x e) (conforms c s.1 p h.ν r b x)))
  conforms (concatenation a c) s p μ h b x =
      let e : len p ≡ len h.p₁ + len h.p₂ = ap len h.path_is ∙ len_append h.p₁ h.p₂ in
      at (type_of (concatenation a c) x) x h.assignment_is (concatenation_conf G.nodes (length G.edges) k (type_of a x) (type_of c x) (h.μ₁ x) (h.μ₂ x) (conforms a s.0 h.p₁ h.μ₁ h.first (omega arith) x) (conforms c s.1 h.p₂ h.μ₂ h.second (omega arith) x))
  conforms (conditioned a θ) s p μ h b x =
      let ih = conforms a s p μ h.answer b x in
      conditioned_conf G.nodes (length G.edges) k (fits (type_of a) θ) (in_var (conditioned a θ) x) (type_of a x) (μ x)
      (λ u. let z : Fit absent (μ x) = rw (unused→absent a x (or_false_l (in_var a x) (in_condition θ x) u)) at ih in z) ih
  conforms (repetition a i j) s p μ h b x =
      let fs : List Factor = h.factors in
      let ne = all_map (λ f r. has_an_edge G a s.0 s.1 f.0 f.1 r) fs h.answers in
      let few : length fs ≤ len p = factors_few G fs p ne h.path_is in
      at (type_of (repetition a i j) x) x h.assignment_is (repetition_conf G.nodes (length G.edges) k (type_of a x) (in_var a x) x fs (absent→unused a x) (λ τ e. typed→used a x e) (omega arith)
      (all_both (λ f r l. conforms a s.0 f.0 f.1 r l x) fs h.answers (factors_short fs p h.path_is b)))
