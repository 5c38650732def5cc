-- What a query's types come to over its parts: some variable has none exactly where two parts use it and it is not Node in both or Edge in both.
use mathlib.Core.Path.{◌∙◌, ◌≡◌, ap, ap₂, refl, sym}
use mathlib.Core.List.Memᴰ
use mathlib.Core.List.{List, [], ◌∷◌}
use mathlib.Core.Option.{none}
use mathlib.Core.Bool.{Bool, ◌&&◌, ◌||◌, false, not, true}
use mathlib.Core.Logic.{◌⊎◌, ◌≢◌, inl, inr}
use Prim.Native.Nat.{ℕ}
use native.Mathlib.Omega.{arith}
use lib.Dec.{eqb, leb}
use borrow.Author.Tests.{eqb-false, eqb-true, leb-true, ne_eqb}
use Rattle.meaning.proofs.Accepted.{Accepted}
use Rattle.meaning.proofs.Causes.{first_none}
use Rattle.meaning.proofs.Granted.{pattern_accepted}
use Rattle.meaning.proofs.Logic.{all_map, all_mem, and_l, and_r, either, is_false, no_false, no_true, not_false, or_cases, or_false_l, or_false_r, or_l, or_r}
use Rattle.meaning.proofs.QueryGranted.{in_twelve, variable_in}
use Rattle.meaning.proofs.QueryOpened.{query_opened}
use Rattle.meaning.proofs.OneType.{type_used}
use Rattle.meaning.proofs.QueryTypes.{concatenation_absent, element_inj, no_element}
use Rattle.meaning.proofs.Types.{has_iff}
use Rattle.meaning.proofs.Unused.{absent→unused, unused→absent}
use Rattle.meaning.specs.Answer.{restrictor_of}
use Rattle.std.specs.Prelude.{if◌then◌else◌}
use Rattle.meaning.specs.Basics.{All, ◌∈◌}
use Rattle.meaning.specs.Pattern.{Pattern, in_var}
use Rattle.meaning.specs.Query.{QueryFound, element, joining_ty, naming, naming_ty, path, query_type_of, unnamed}
use Rattle.meaning.specs.QueryRecord.{twelve}
use Rattle.meaning.specs.QueryWords.{Part, bad_names_lem, is_name_lem, is_query_clash, name_used_lem, part_query, parts_fault, query_of, query_untyped}
use Rattle.meaning.specs.Table.{any_of, is_variable_lem, pattern_fault, pattern_of}
use Rattle.meaning.specs.Typing.{Edge, Found, Group, Has, Maybe, Node, Single, Ty, absent, clash, concatenation_ty, one_edge, one_node, type_of, typed}

-- a part's pattern
abbrev pub part_pattern : Part → Pattern
part_pattern a = pattern_of a.words

-- a and b both use x, and it is not Node in both or Edge in both
pub record Differ (x : ℕ) (a b : Part) : Type 0 where
  pub in_first : in_var (pattern_of a.words) x ≡ true
  pub in_second : in_var (pattern_of b.words) x ≡ true
  pub not_alike : (τ : Ty) → Single τ → Has (pattern_of a.words) x τ → Has (pattern_of b.words) x τ → ⊥

-- R holds of two parts of l, in their order
abbrev pub OfTwo : (Part → Part → Type 0) → List Part → Type 0
OfTwo R [] = ⊥
OfTwo R (a ∷ l) = ((b : Part) × (b ∈ l) × R a b) ⊎ OfTwo R l

-- ------------------------------------------------------------------ two types
no_typed_clash : {A : Type 0} {τ : Ty} → typed τ ≡ clash → A
no_typed_clash e = let z : ◌≡◌ {A = ℕ} 0 1 = cc in absurd (omega arith)

no_absent_clash : {A : Type 0} → absent ≡ clash → A
no_absent_clash e = let z : ◌≡◌ {A = ℕ} 0 1 = cc in absurd (omega arith)

no_absent_typed : {A : Type 0} {τ : Ty} → absent ≡ typed τ → A
no_absent_typed e = let z : ◌≡◌ {A = ℕ} 0 1 = cc in absurd (omega arith)

typed_inj : {a b : Ty} → typed a ≡ typed b → a ≡ b
typed_inj q = cc

-- two types clash, or are the same one of Node and Edge
two_types : (σ τ : Ty) → (concatenation_ty (typed σ) (typed τ) ≡ clash) ⊎ (Single τ × (σ ≡ τ) × (concatenation_ty (typed σ) (typed τ) ≡ typed τ))
unfolding query_opened
two_types Node Node = inr (one_node, refl, refl)
two_types Node Edge = inl refl
two_types Node (Maybe τ) = inl refl
two_types Node (Group τ) = inl refl
two_types Edge Node = inl refl
two_types Edge Edge = inr (one_edge, refl, refl)
two_types Edge (Maybe τ) = inl refl
two_types Edge (Group τ) = inl refl
two_types (Maybe σ) τ = inl refl
two_types (Group σ) τ = inl refl

alike : (τ : Ty) → Single τ → concatenation_ty (typed τ) (typed τ) ≡ clash → ⊥
unfolding query_opened
alike τ one_node e = no_typed_clash e
alike τ one_edge e = no_typed_clash e

-- how a type comes about in a concatenation, and so in a join
typed_cases : (f g : Found) (τ : Ty) → concatenation_ty f g ≡ typed τ → ((f ≡ typed τ) × (g ≡ typed τ)) ⊎ (((f ≡ typed τ) × (g ≡ absent)) ⊎ ((f ≡ absent) × (g ≡ typed τ)))
unfolding query_opened
typed_cases absent g τ e = inr (inr (refl, e))
typed_cases clash g τ e = no_typed_clash (sym e)
typed_cases (typed σ) absent τ e = inr (inl (e, refl))
typed_cases (typed σ) clash τ e = no_typed_clash (sym e)
typed_cases (typed σ) (typed ξ) τ e = either (two_types σ ξ) (λ c. no_typed_clash (sym e ∙ c)) (λ s. let z : typed ξ ≡ typed τ = sym s.2 ∙ e in inl (ap typed s.1 ∙ z, z))

concat_clash : (f : Found) → concatenation_ty f clash ≡ clash
unfolding query_opened
concat_clash absent = refl
concat_clash clash = refl
concat_clash (typed τ) = refl

concat_none : (f : Found) → concatenation_ty f absent ≡ f
unfolding query_opened
concat_none absent = refl
concat_none clash = refl
concat_none (typed τ) = refl

-- ------------------------------------------------------------------ a variable over the parts, path names aside
module _ (x : ℕ) where
  unfoldable over : List Part → Found
  over [] = absent
  over (a ∷ l) = concatenation_ty (type_of (part_pattern a) x) (over l)

  has→used : (a : Part) (τ : Ty) → type_of (part_pattern a) x ≡ typed τ → in_var (part_pattern a) x ≡ true
  has→used a τ e = type_used ((has_iff (part_pattern a) x τ).0 e)

  nowhere : {b : Part} {l : List Part} → b ∈ l → over l ≡ absent → in_var (part_pattern b) x ≡ false
  unfolding over
  nowhere (Memᴰ.head {x = a} {xs = l} e) q = rw e (absent→unused (part_pattern a) x (concatenation_absent (type_of (part_pattern a) x) (over l) q).0)
  nowhere (Memᴰ.tail {x = a} {xs = l} m) q = nowhere m (concatenation_absent (type_of (part_pattern a) x) (over l) q).1

  everywhere : {b : Part} {l : List Part} (τ : Ty) → b ∈ l → over l ≡ typed τ → in_var (part_pattern b) x ≡ true → type_of (part_pattern b) x ≡ typed τ
  unfolding over
  everywhere τ (Memᴰ.head {x = a} {xs = l} e) q u =
      either (typed_cases (type_of (part_pattern a) x) (over l) τ q) (λ c. rw e c.0) (λ c. either c (λ d. rw e d.0) (λ d. no_true (sym u ∙ rw e (absent→unused (part_pattern a) x d.0))))
  everywhere τ (Memᴰ.tail {x = a} {xs = l} m) q u =
      either (typed_cases (type_of (part_pattern a) x) (over l) τ q) (λ c. everywhere τ m c.1 u) (λ c. either c (λ d. no_true (sym u ∙ nowhere m d.1)) (λ d. everywhere τ m d.1 u))

  somewhere : (l : List Part) (τ : Ty) → over l ≡ typed τ → (b : Part) × (b ∈ l) × (type_of (part_pattern b) x ≡ typed τ)
  unfolding over
  somewhere [] τ q = no_absent_typed q
  somewhere (a ∷ l) τ q =
      either (typed_cases (type_of (part_pattern a) x) (over l) τ q) (λ c. (a, Memᴰ.head refl, c.0)) (λ c. either c (λ d. (a, Memᴰ.head refl, d.0)) (λ d. let h = somewhere l τ d.1 in (h.0, Memᴰ.tail h.1, h.2)))

  differ_of : (a b : Part) (σ τ : Ty) → type_of (part_pattern a) x ≡ typed σ → type_of (part_pattern b) x ≡ typed τ → concatenation_ty (typed σ) (typed τ) ≡ clash → Differ x a b
  differ_of a b σ τ e f c = record {
    in_first = has→used a σ e;
    in_second = has→used b τ f;
    not_alike = λ ξ s h k.
        let p : σ ≡ ξ = typed_inj (sym e ∙ (has_iff (part_pattern a) x ξ).1 h) in
        let q : τ ≡ ξ = typed_inj (sym f ∙ (has_iff (part_pattern b) x ξ).1 k) in
        alike ξ s (ap₂ (λ (y z : Ty). concatenation_ty (typed y) (typed z)) (sym p) (sym q) ∙ c);
  }

  over→ : (l : List Part) → All (λ a. type_of (part_pattern a) x ≢ clash) l → over l ≡ clash → OfTwo (Differ x) l
  unfolding query_opened over
  over→ [] h q = no_absent_clash q
  over→ (a ∷ l) h q = go (type_of (part_pattern a) x) (over l) refl refl q (over→ l h.1)
    where
      go : (f g : Found) → type_of (part_pattern a) x ≡ f → over l ≡ g → concatenation_ty f g ≡ clash → (over l ≡ clash → OfTwo (Differ x) l) → OfTwo (Differ x) (a ∷ l)
      go absent g e k q ih = inr (ih (k ∙ q))
      go clash g e k q ih = absurd (h.0 e)
      go (typed σ) absent e k q ih = no_typed_clash q
      go (typed σ) clash e k q ih = inr (ih k)
      go (typed σ) (typed τ) e k q ih = let b = somewhere l τ k in inl (b.0, b.1, differ_of a b.0 σ τ e b.2 q)

  over← : (l : List Part) → OfTwo (Differ x) l → over l ≡ clash
  unfolding query_opened over
  over← [] h = elim h [ ]
  over← (a ∷ l) (inl (b, m, d)) = go (type_of (part_pattern a) x) (over l) refl refl
    where
      go : (f g : Found) → type_of (part_pattern a) x ≡ f → over l ≡ g → concatenation_ty f g ≡ clash
      go absent g e k = no_true (sym d.in_first ∙ absent→unused (part_pattern a) x e)
      go clash g e k = refl
      go (typed σ) absent e k = no_true (sym d.in_second ∙ nowhere m k)
      go (typed σ) clash e k = refl
      go (typed σ) (typed τ) e k = either (two_types σ τ) (λ c. c) (λ s.
          absurd (d.not_alike τ s.0 ((has_iff (part_pattern a) x τ).0 (e ∙ ap typed s.1)) ((has_iff (part_pattern b) x τ).0 (everywhere τ m k d.in_second))))
  over← (a ∷ l) (inr t) = ap (concatenation_ty (type_of (part_pattern a) x)) (over← l t) ∙ concat_clash (type_of (part_pattern a) x)

-- ------------------------------------------------------------------ path names
-- each part's pattern is accepted, and its name is 0 or one of 9 to 12
pub record Good (a : Part) : Type 0 where
  pub accepted : Accepted (pattern_of a.words)
  pub name_is : eqb a.name 0 ≡ false → is_name_lem a.name ≡ true

abbrev bad_name : Part → List Part → Bool
bad_name a l = not (eqb a.name 0) && (not (is_name_lem a.name) || name_used_lem a.name l)

pub good_parts : (l : List Part) → bad_names_lem l ≡ false → parts_fault l ≡ none → All Good l
unfolding query_opened
good_parts [] e f = tt
good_parts (a ∷ l) e f =
    let k = first_none (pattern_fault a.words) (parts_fault l) f in (
      record { accepted = pattern_accepted a.words k.0; name_is = λ z. not_false (is_name_lem a.name) (or_false_l (not (is_name_lem a.name)) (name_used_lem a.name l) (rw z at (or_false_l (bad_name a l) (bad_names_lem l) e))) },
      good_parts l (or_false_r (bad_name a l) (bad_names_lem l) e) k.1,
    )

module _ (x : ℕ) where
  -- no name: what the patterns say
  part_other : (a : Part) → Good a → is_name_lem x ≡ false → query_type_of (part_query a) x ≡ element (type_of (part_pattern a) x)
  unfolding query_opened
  part_other a g n = go (eqb a.name 0) refl
    where
      apart : is_name_lem a.name ≡ true → (b : Bool) → eqb a.name x ≡ b → b ≡ false
      apart h true e = no_true (sym h ∙ (ap is_name_lem (eqb-true a.name x e) ∙ n))
      apart h false e = refl

      go : (b : Bool) → eqb a.name 0 ≡ b → query_type_of (if b then unnamed (restrictor_of a.restrictor) (part_pattern a) else naming a.name (restrictor_of a.restrictor) (part_pattern a)) x ≡ element (type_of (part_pattern a) x)
      go true e = refl
      go false e = rw (apart (g.name_is e) (eqb a.name x) refl) refl

  parts_other : (a : Part) (l : List Part) → All Good (a ∷ l) → is_name_lem x ≡ false → query_type_of (query_of (a ∷ l)) x ≡ element (over x (a ∷ l))
  unfolding query_opened over
  parts_other a [] g n = part_other a g.0 n ∙ ap element (sym (concat_none (type_of (part_pattern a) x)))
  parts_other a (b ∷ l) g n = ap₂ joining_ty (part_other a g.0 n) (parts_other b l g.1 n)

  -- a name: it is that of a path, or not used
  name_found_lem : Bool → QueryFound
  name_found_lem true = path
  name_found_lem false = element absent

  no_variable : is_name_lem x ≡ true → is_variable_lem x ≡ false
  unfolding query_opened
  no_variable n = is_false (leb 1 x && leb x 8) (λ v. let a = leb-true 9 x (and_l (leb 9 x) (leb x 12) n) in let b = leb-true x 8 (and_r (leb 1 x) (leb x 8) v) in omega arith)

  no_type : (a : Part) → Good a → is_name_lem x ≡ true → type_of (part_pattern a) x ≡ absent
  no_type a g n = unused→absent (part_pattern a) x (is_false (in_var (part_pattern a) x) (λ u. no_true (sym (g.accepted.variables x u) ∙ no_variable n)))

  part_name : (a : Part) → Good a → is_name_lem x ≡ true → query_type_of (part_query a) x ≡ name_found_lem (eqb a.name x)
  unfolding query_opened name_found_lem
  part_name a g n = go (eqb a.name 0) refl
    where
      not_zero : a.name ≡ 0 → (b : Bool) → eqb a.name x ≡ b → b ≡ false
      not_zero z true e = let l = leb-true 9 x (and_l (leb 9 x) (leb x 12) n) in absurd (omega (arith, z, eqb-true a.name x e))
      not_zero z false e = refl

      named : (b : Bool) → naming_ty b absent ≡ name_found_lem b
      named true = refl
      named false = refl

      go : (b : Bool) → eqb a.name 0 ≡ b → query_type_of (if b then unnamed (restrictor_of a.restrictor) (part_pattern a) else naming a.name (restrictor_of a.restrictor) (part_pattern a)) x ≡ name_found_lem (eqb a.name x)
      go true e = ap element (no_type a g n) ∙ sym (ap name_found_lem (not_zero (eqb-true a.name 0 e) (eqb a.name x) refl))
      go false e = ap (naming_ty (eqb a.name x)) (no_type a g n) ∙ named (eqb a.name x)

  behind_none : (f : QueryFound) → joining_ty (element absent) f ≡ f
  unfolding query_opened
  behind_none (element f) = refl
  behind_none path = refl

  -- the test the other way round
  same_false : (y : ℕ) → eqb x y ≡ false → eqb y x ≡ false
  same_false y e = is_false (eqb y x) (λ h. eqb-false x y e (sym (eqb-true y x h)))

  parts_unnamed : (a : Part) (l : List Part) → All Good (a ∷ l) → is_name_lem x ≡ true → name_used_lem x (a ∷ l) ≡ false → query_type_of (query_of (a ∷ l)) x ≡ element absent
  unfolding query_opened name_found_lem
  parts_unnamed a [] g n u = part_name a g.0 n ∙ ap name_found_lem (same_false a.name (or_false_l (eqb x a.name) false u))
  parts_unnamed a (b ∷ l) g n u =
      ap₂ joining_ty (part_name a g.0 n ∙ ap name_found_lem (same_false a.name (or_false_l (eqb x a.name) (name_used_lem x (b ∷ l)) u))) (parts_unnamed b l g.1 n (or_false_r (eqb x a.name) (name_used_lem x (b ∷ l)) u))

  parts_name : (a : Part) (l : List Part) → All Good (a ∷ l) → bad_names_lem (a ∷ l) ≡ false → is_name_lem x ≡ true → query_type_of (query_of (a ∷ l)) x ≢ element clash
  unfolding query_opened name_found_lem
  parts_name a [] g e n q = one (eqb a.name x) (sym (part_name a g.0 n) ∙ q)
    where
      one : (b : Bool) → name_found_lem b ≡ element clash → ⊥
      one true q = no_element q
      one false q = no_absent_clash (element_inj q)
  parts_name a (b ∷ l) g e n q = go (eqb a.name x) refl (sym (ap (λ (f : QueryFound). joining_ty f (query_type_of (query_of (b ∷ l)) x)) (part_name a g.0 n)) ∙ q) (parts_name b l g.1 (or_false_r (bad_name a (b ∷ l)) (bad_names_lem (b ∷ l)) e) n)
    where
      used : a.name ≡ x → name_used_lem x (b ∷ l) ≡ false
      used z =
          let k : eqb a.name 0 ≡ false = ne_eqb a.name 0 (λ w. let h = leb-true 9 x (and_l (leb 9 x) (leb x 12) n) in omega (arith, z, w)) in
          let m : (not (is_name_lem a.name) || name_used_lem a.name (b ∷ l)) ≡ false = rw k at (or_false_l (bad_name a (b ∷ l)) (bad_names_lem (b ∷ l)) e) in
          ap (λ (y : ℕ). name_used_lem y (b ∷ l)) (sym z) ∙ or_false_r (not (is_name_lem a.name)) (name_used_lem a.name (b ∷ l)) m

      go : (c : Bool) → eqb a.name x ≡ c → joining_ty (name_found_lem c) (query_type_of (query_of (b ∷ l)) x) ≡ element clash → (query_type_of (query_of (b ∷ l)) x ≢ element clash) → ⊥
      go true p q ih = no_element (sym (ap (joining_ty path) (parts_unnamed b l g.1 n (used (eqb-true a.name x p)))) ∙ q)
      go false p q ih = ih (sym (behind_none (query_type_of (query_of (b ∷ l)) x)) ∙ q)

-- ------------------------------------------------------------------ 33 of good parts
any_true : (f : ℕ → Bool) (l : List ℕ) → any_of l f ≡ true → (x : ℕ) × (f x ≡ true)
unfolding query_opened
any_true f [] e = no_false e
any_true f (x ∷ l) e = either (or_cases (f x) (any_of l f) e) (λ h. (x, h)) (any_true f l)

any_member : (f : ℕ → Bool) {x : ℕ} {l : List ℕ} → x ∈ l → f x ≡ true → any_of l f ≡ true
unfolding query_opened
any_member f (Memᴰ.head {x = y} {xs = l} e) h = or_l (f y) (any_of l f) (ap f (sym e) ∙ h)
any_member f (Memᴰ.tail {x = y} {xs = l} m) h = or_r (f y) (any_of l f) (any_member f m h)

clash_is : (f : QueryFound) → is_query_clash f ≡ true → f ≡ element clash
unfolding query_opened
clash_is (element absent) e = no_false e
clash_is (element clash) e = refl
clash_is (element (typed τ)) e = no_false e
clash_is path e = no_false e

-- the first part of two uses the variable
used_by : (x : ℕ) (l : List Part) → OfTwo (Differ x) l → (a : Part) × (a ∈ l) × (in_var (part_pattern a) x ≡ true)
used_by x [] h = elim h [ ]
used_by x (a ∷ l) (inl (b, m, d)) = (a, Memᴰ.head refl, d.in_first)
used_by x (a ∷ l) (inr t) = let h = used_by x l t in (h.0, Memᴰ.tail h.1, h.2)

module _ (a : Part) (l : List Part) (good : All Good (a ∷ l)) (names : bad_names_lem (a ∷ l) ≡ false) where
  pub untyped→ : query_untyped (query_of (a ∷ l)) ≡ true → (x : ℕ) × OfTwo (Differ x) (a ∷ l)
  unfolding query_opened
  untyped→ e = let h = any_true (λ x. is_query_clash (query_type_of (query_of (a ∷ l)) x)) twelve e in (h.0, go h.0 (is_name_lem h.0) refl (clash_is (query_type_of (query_of (a ∷ l)) h.0) h.1))
    where
      go : (x : ℕ) (b : Bool) → is_name_lem x ≡ b → query_type_of (query_of (a ∷ l)) x ≡ element clash → OfTwo (Differ x) (a ∷ l)
      go x true n q = absurd (parts_name x a l good names n q)
      go x false n q = over→ x (a ∷ l) (all_map (λ b g. g.accepted.no_clash x) (a ∷ l) good) (element_inj (sym (parts_other x a l good n) ∙ q))

  pub untyped← : (x : ℕ) → OfTwo (Differ x) (a ∷ l) → query_untyped (query_of (a ∷ l)) ≡ true
  unfolding query_opened
  untyped← x t =
      let u = used_by x (a ∷ l) t in
      let v : is_variable_lem x ≡ true = (all_mem Good good u.1).accepted.variables x u.2 in
      let n : is_name_lem x ≡ false = is_false (is_name_lem x) (λ h. no_true (sym v ∙ no_variable x h)) in
      any_member (λ y. is_query_clash (query_type_of (query_of (a ∷ l)) y)) (in_twelve x (variable_in x v)) (ap is_query_clash (parts_other x a l good n ∙ ap element (over← x (a ∷ l) t)))
