-- That the words are the graph and the table: what `fill_graph` and `fill_part` promise.
use mathlib.Core.Path.{◌≡◌, refl, sym, ap, ap₂, ◌∙◌, fun_ext}
use mathlib.Core.List.{List, ◌++◌, map}
use mathlib.Core.Bool.{Bool, true, false, ◌&&◌, ◌||◌}
use mathlib.Core.Option.{Option, none, some}
use Prim.Native.Nat.{ℕ, zero, suc, ◌*◌, ◌+◌, ◌-◌, ◌%◌, ◌/◌, ◌<◌, ◌≤◌}
use native.Mathlib.Omega.{arith}
use lib.Dec.{eqb, ltb}
use lib.ListN.{drop, get_or, length, length-drop, length-set, set, take}
use lib.Seq.{ext_get_or, get_or-drop, get_or-set_other, get_or-set_same, get_or-take, length-take-le}
use borrow.Author.Tests.{eqb-true, ltb-true}
use Rattle.meaning.specs.Answer.{restrictor_of}
use Rattle.meaning.specs.Basics.{up_from}
use Rattle.meaning.specs.Graph.{EdgeRow, Element, Graph, the_edge, the_node}
use Rattle.meaning.specs.Image.{edge_count, edge_row, element_number, graph_of, image_fault, label_cell_lem, label_count, node_count, pair_less_lem, property_cell_lem, property_count, some_row_lem}
use Rattle.meaning.specs.Image as img
use Rattle.meaning.specs.Table.{pattern_fault}
use Rattle.meaning.proofs.ImageRead.{image_read}
use Rattle.meaning.proofs.Logic.{and_l, and_r, either, or_cases}
use Rattle.meaning.specs.Typing.{type_of}
use Rattle.table.specs.Variables.{pattern_at_lem}
use Rattle.typecode.specs.Codes.{code_of}
use Rattle.image.specs.Sections.{Checked}
use Rattle.image.specs.declared.sections.Sections.{Sections}
use Rattle.image.proofs.Edges.{ends_are_nodes}
use Rattle.image.proofs.Rising.{labels_rise, properties_rise}
use Rattle.compiled.specs.Words.{edge_in_lem, edge_of, edges_in_lem, graph_in, labels_in, names, nodes_in_lem, number_in, properties_in, some_names, value_of}
use Rattle.compiled.specs.Parts.{HeadKept, restrictor_in, table_in}
use Rattle.compiled.specs.Sound.{Lawful, Sound}
use Rattle.compiled.specs.Copies.{EdgeWord, GraphFilled, HeadFilled, LabelWord, PartFilled, PropertyWord, Put, RowsFilled, TableWord}
use Rattle.compiled.specs.Derived.{RowsAre, plan_words, type_in_lem}
use Rattle.compiled.proofs.Frames.{restrictor_kept, table_kept, tabled_kept}
use Rattle.compiled.proofs.Parts.{accepted_short}
use Rattle.compiled.proofs.RowWords.{behind_long, behind_low, behind_word}

-- ------------------------------------------------------------------ the words that were put
-- the words are the rows of the image
pub record Copied (image g : List ℕ) : Type 0 where
  pub nodes : nodes_in_lem g ≡ node_count image
  pub edges : edges_in_lem g ≡ edge_count image
  pub labels : labels_in g ≡ label_count image
  pub properties : properties_in g ≡ property_count image
  pub edge : (e : ℕ) → e < edge_count image → edge_in_lem g e ≡ edge_row image e
  pub label : (i : ℕ) → i < label_count image → LabelWord image i (get_or g (208 + i) 0)
  pub property : (i : ℕ) → i < property_count image → PropertyWord image i (get_or g (1008 + i) 0)

module _ (g₀ : List ℕ) (a image c d : ℕ) (room : 4 ≤ length g₀) where
  abbrev four : List ℕ
  four = set (set (set (set g₀ 0 a) 1 image) 2 c) 3 d

  four_0 : get_or four 0 0 ≡ a
  four_0 = get_or-set_other (set (set (set g₀ 0 a) 1 image) 2 c) 3 0 d 0 (λ e. omega arith) ∙ get_or-set_other (set (set g₀ 0 a) 1 image) 2 0 c 0 (λ e. omega arith) ∙ get_or-set_other (set g₀ 0 a) 1 0 image 0 (λ e. omega arith) ∙ get_or-set_same g₀ 0 a 0 (omega arith)

  four_1 : get_or four 1 0 ≡ image
  four_1 = get_or-set_other (set (set (set g₀ 0 a) 1 image) 2 c) 3 1 d 0 (λ e. omega arith) ∙ get_or-set_other (set (set g₀ 0 a) 1 image) 2 1 c 0 (λ e. omega arith) ∙ get_or-set_same (set g₀ 0 a) 1 image 0 (simp length-set (omega arith))

  four_2 : get_or four 2 0 ≡ c
  four_2 = get_or-set_other (set (set (set g₀ 0 a) 1 image) 2 c) 3 2 d 0 (λ e. omega arith) ∙ get_or-set_same (set (set g₀ 0 a) 1 image) 2 c 0 (simp length-set (omega arith))

  four_3 : get_or four 3 0 ≡ d
  four_3 = get_or-set_same (set (set (set g₀ 0 a) 1 image) 2 c) 3 d 0 (simp length-set (omega arith))

module _ (image : List ℕ) (s : Sections) (k : Checked image s) (g₀ g₂ g₃ g : List ℕ) (room : length g₀ ≡ 3008)
    (es : Put 8 (EdgeWord image) s.edges.count (four g₀ s.nodes.count s.edges.count s.labels.count s.properties.count (omega arith)) g₂)
    (ls : Put 208 (LabelWord image) s.labels.count g₂ g₃) (ps : Put 1008 (PropertyWord image) s.properties.count g₃ g) where
  abbrev g₁ : List ℕ
  g₁ = four g₀ s.nodes.count s.edges.count s.labels.count s.properties.count (omega arith)

  begun : (j : ℕ) → j < 8 → get_or g j 0 ≡ get_or g₁ j 0
  begun j h = ps.low j (omega arith) ∙ ls.low j (omega arith) ∙ es.low j h

  copied : Copied image g
  unfolding nodes_in_lem edges_in_lem labels_in properties_in edge_in_lem
  copied = record {
    nodes = begun 0 (omega arith) ∙ four_0 g₀ s.nodes.count s.edges.count s.labels.count s.properties.count (omega arith) ∙ k.laid.nodes;
    edges = begun 1 (omega arith) ∙ four_1 g₀ s.nodes.count s.edges.count s.labels.count s.properties.count (omega arith) ∙ k.laid.edges;
    labels = begun 2 (omega arith) ∙ four_2 g₀ s.nodes.count s.edges.count s.labels.count s.properties.count (omega arith) ∙ k.laid.labels;
    properties = begun 3 (omega arith) ∙ four_3 g₀ s.nodes.count s.edges.count s.labels.count s.properties.count (omega arith) ∙ k.laid.properties;
    edge = λ e h.
        let few = (image_read image k.sound).few_edges in
        ap edge_of (ps.low (8 + e) (omega arith) ∙ ls.low (8 + e) (omega arith)) ∙ (es.here e (omega (arith, k.laid.edges))).is;
    label = λ i h.
        let few = (image_read image k.sound).few_labels in
        rw (ps.low (208 + i) (omega arith)) (ls.here i (omega (arith, k.laid.labels)));
    property = λ i h. ps.here i (omega (arith, k.laid.properties));
  }

-- ------------------------------------------------------------------ the graph
same_graph : {n n' : ℕ} {es es' : List EdgeRow} {l l' : Element → ℕ → Bool} {p p' : Element → ℕ → Option ℕ} → n ≡ n' → es ≡ es' → l ≡ l' → p ≡ p' →
    ◌≡◌ {A = Graph} (record { nodes = n; edges = es; label = l; property = p }) (record { nodes = n'; edges = es'; label = l'; property = p' })
same_graph e f g h = cc

same_edges : (f h : ℕ → EdgeRow) (n i : ℕ) → ((e : ℕ) → e < i + n → f e ≡ h e) → map f (up_from n i) ≡ map h (up_from n i)
unfolding up_from
same_edges f h zero i k = refl
same_edges f h (suc n) i k = rw (k i (omega arith), same_edges f h n (suc i) (λ e l. k e (omega arith)))

same_some : (n : ℕ) (f h : ℕ → Bool) → ((i : ℕ) → i < n → f i ≡ h i) → some_row_lem n f ≡ some_row_lem n h
unfolding some_row_lem
same_some zero f h k = refl
same_some (suc n) f h k = ap₂ ◌||◌ (k n (omega arith)) (same_some n f h (λ i l. k i (omega arith)))

module _ (image g : List ℕ) (k : Copied image g) where
  same_number : (x : Element) → number_in g x ≡ element_number image x
  unfolding number_in element_number
  same_number (the_node n) = refl
  same_number (the_edge e) = rw k.nodes

  same_label : (x : Element) (l i : ℕ) → i < label_count image → names (get_or g (208 + i) 0) (number_in g x) l ≡ (eqb (label_cell_lem image i 0) (element_number image x) && eqb (label_cell_lem image i 1) l)
  unfolding names
  same_label x l i h = rw ((k.label i h).owner, (k.label i h).name, same_number x)

  same_name : (x : Element) (l i : ℕ) → i < property_count image → names (get_or g (1008 + i) 0) (number_in g x) l ≡ (eqb (property_cell_lem image i 0) (element_number image x) && eqb (property_cell_lem image i 1) l)
  unfolding names
  same_name x l i h = rw ((k.property i h).owner, (k.property i h).name, same_number x)

  same_value : (x : Element) (l n : ℕ) → n ≤ property_count image → value_of g 1008 n (number_in g x) l ≡ img.value_in image n x l
  unfolding value_of img.value_in
  same_value x l zero h = refl
  same_value x l (suc n) h = go (eqb (property_cell_lem image n 0) (element_number image x) && eqb (property_cell_lem image n 1) l) refl (same_value x l n (omega arith))
    where
      go : (c : Bool) → (eqb (property_cell_lem image n 0) (element_number image x) && eqb (property_cell_lem image n 1) l) ≡ c → value_of g 1008 n (number_in g x) l ≡ img.value_in image n x l → value_of g 1008 (suc n) (number_in g x) l ≡ img.value_in image (suc n) x l
      go true e ih = rw (value_of, img.value_in, same_name x l n (omega arith) ∙ e, e) (ap some (k.property n (omega arith)).value)
      go false e ih = rw (value_of, img.value_in, same_name x l n (omega arith) ∙ e, e) ih

  pub graph_is : graph_in g ≡ graph_of image
  unfolding graph_in graph_of some_names
  graph_is = same_graph k.nodes
      (ap (λ (n : ℕ). map (edge_in_lem g) (up_from n 0)) k.edges ∙ same_edges (edge_in_lem g) (edge_row image) (edge_count image) 0 (λ e l. k.edge e (omega arith)))
      (fun_ext (λ x. fun_ext (λ l. ap (λ (n : ℕ). some_row_lem n (λ i. names (get_or g (208 + i) 0) (number_in g x) l)) k.labels
      ∙ same_some (label_count image) (λ i. names (get_or g (208 + i) 0) (number_in g x) l) (λ i. eqb (label_cell_lem image i 0) (element_number image x) && eqb (label_cell_lem image i 1) l) (same_label x l))))
      (fun_ext (λ x. fun_ext (λ l. ap (λ (n : ℕ). value_of g 1008 n (number_in g x) l) k.properties ∙ same_value x l (property_count image) (omega arith))))

-- ------------------------------------------------------------------ its laws
pairs_rise : (v w a c d e : ℕ) → v / 65536 ≡ a → v % 65536 ≡ c → w / 65536 ≡ d → w % 65536 ≡ e → pair_less_lem a c d e ≡ true → v < w
unfolding pair_less_lem
pairs_rise v w a c d e p q r s h = either (or_cases (ltb a d) (eqb a d && ltb c e) h)
    (λ l. let z : a < d = ltb-true a d l in omega arith)
    (λ l. let y : a ≡ d = eqb-true a d (and_l (eqb a d) (ltb c e) l) in let z : c < e = ltb-true c e (and_r (eqb a d) (ltb c e) l) in omega arith)

module _ (image : List ℕ) (sound : image_fault image ≡ none) (g : List ℕ) (k : Copied image g) where
  pub lawful : Lawful g
  lawful = record {
    few_nodes = omega (arith, k.nodes, (image_read image sound).few_nodes);
    few_edges = omega (arith, k.edges, (image_read image sound).few_edges);
    few_labels = omega (arith, k.labels, (image_read image sound).few_labels);
    few_properties = omega (arith, k.properties, (image_read image sound).few_properties);
    first_in = λ e h. let l : e < edge_count image = omega (arith, k.edges) in rw (k.edge e l, k.nodes) (ends_are_nodes image e sound l).0;
    second_in = λ e h. let l : e < edge_count image = omega (arith, k.edges) in rw (k.edge e l, k.nodes) (ends_are_nodes image e sound l).1;
    labels_rise = record {
      is = λ i j h l.
          let m : j < label_count image = omega (arith, k.labels) in
          let v = k.label i (omega arith) in
          let w = k.label j m in
          pairs_rise _ _ _ _ _ _ v.owner v.name w.owner w.name (labels_rise image sound i j h m);
    };
    properties_rise = record {
      is = λ i j h l.
          let m : j < property_count image = omega (arith, k.properties) in
          let v = k.property i (omega arith) in
          let w = k.property j m in
          pairs_rise _ _ _ _ _ _ v.owner v.name w.owner w.name (properties_rise image sound i j h m);
    };
  }

-- the way out of fill_graph
pub graph_filled : (image : List ℕ) (s : Sections) → Checked image s → (g₀ g₂ g₃ g : List ℕ) → length g₀ ≡ 3008
    → Put 8 (EdgeWord image) s.edges.count (set (set (set (set g₀ 0 s.nodes.count) 1 s.edges.count) 2 s.labels.count) 3 s.properties.count) g₂
    → Put 208 (LabelWord image) s.labels.count g₂ g₃ → Put 1008 (PropertyWord image) s.properties.count g₃ g → GraphFilled image g
graph_filled image s k g₀ g₂ g₃ g room es ls ps =
    let c = copied image s k g₀ g₂ g₃ g room es ls ps in
    record { lawful = lawful image k.sound g c; is = graph_is image g c }

-- ------------------------------------------------------------------ the part
-- the table and the restrictor, once they are put
module _ (pattern : List ℕ) (n : ℕ) (p₀ p : List ℕ) (short : length pattern ≤ 320) (room : length p₀ ≡ plan_words) (put : Put 8 (TableWord pattern) (length pattern) (set (set p₀ 0 (length pattern)) 1 n) p) where
  word_0 : get_or p 0 0 ≡ length pattern
  word_0 = put.low 0 (omega arith) ∙ get_or-set_other (set p₀ 0 (length pattern)) 1 0 n 0 (λ e. omega arith) ∙ get_or-set_same p₀ 0 (length pattern) 0 (omega arith)

  word_1 : get_or p 1 0 ≡ n
  word_1 = put.low 1 (omega arith) ∙ get_or-set_same (set p₀ 0 (length pattern)) 1 n 0 (simp length-set (omega arith))

  long : length p ≡ plan_words
  long = omega (arith, put.long, length-set (set p₀ 0 (length pattern)) 1 n, length-set p₀ 0 (length pattern))

  whole_table : length (take (length pattern) (drop 8 p)) ≡ length pattern
  whole_table = length-take-le (length pattern) (drop 8 p) (simp length-drop (omega (arith, long)))

  the_table : table_in p ≡ pattern
  unfolding table_in
  the_table = rw word_0 (ext_get_or 0 (take (length pattern) (drop 8 p)) pattern whole_table (λ i h. get_or-take (length pattern) (drop 8 p) i 0 (omega (arith, whole_table)) ∙ get_or-drop 8 p i 0 ∙ (put.here i (omega (arith, whole_table))).is))

  -- the way out of fill_head
  pub head_filled : HeadFilled pattern n p
  unfolding restrictor_in
  head_filled = record {
    tabled = record { size = ap length the_table ∙ sym word_0; short = omega (arith, word_0); small = λ j h. (put.here j (omega (arith, word_0))).small };
    is = the_table;
    restrictor_is = ap restrictor_of word_1;
  }

-- the way out of fill_part
module _ (pattern : List ℕ) (n : ℕ) (p words : List ℕ) (e : pattern_fault pattern ≡ none) (h : HeadFilled pattern n p) (long : length p ≡ plan_words) (l : length words ≡ length (take (length p - 328) (drop 328 p))) (r : RowsFilled pattern words) where
  q : List ℕ
  q = take 328 p ++ (words ++ drop (length p - 328) (drop 328 p))

  q_head : HeadKept p q
  unfolding q
  q_head = record { long = behind_long p words long l; low = behind_low p words long l }

  q_table : table_in q ≡ pattern
  q_table = table_kept p q h.tabled q_head ∙ h.is

  few : (i : ℕ) → i * 5 + 5 ≤ length pattern → i < 64
  few i k = omega (arith, accepted_short pattern e)

  q_word : (j : ℕ) → j < 576 → get_or q (328 + j) 0 ≡ get_or words j 0
  unfolding q
  q_word = behind_word p words long l

  q_types : (i : ℕ) → i * 5 + 5 ≤ length pattern → (x : ℕ) → 1 ≤ x → x < 9 → type_in_lem q i x ≡ code_of (type_of (pattern_at_lem pattern i) x)
  q_types i k x a b =
      let z : 8 * i + 391 + x ≡ 328 + (8 * i + 63 + x) = omega arith in
      ap (λ (j : ℕ). get_or q j 0) z ∙ q_word (8 * i + 63 + x) (omega (arith, few i k)) ∙ r.types i k x a b

  q_rows : RowsAre q
  q_rows = record { variables = rw q_table (λ i k. q_word i (omega (arith, few i k)) ∙ r.variables i k); types = rw q_table q_types }

  filled_part : PartFilled pattern n (take 328 p ++ (words ++ drop (length p - 328) (drop 328 p)))
  unfolding q
  filled_part = record {
    tabled = tabled_kept p q h.tabled q_head;
    rows = q_rows;
    is = q_table;
    restrictor_is = restrictor_kept p q h.tabled q_head ∙ h.restrictor_is;
  }

pub part_filled : (pattern : List ℕ) (n : ℕ) (p₀ p words : List ℕ) → pattern_fault pattern ≡ none → HeadFilled pattern n p → length p₀ ≡ plan_words → length p ≡ length p₀ → length words ≡ length (take (length p - 328) (drop 328 p)) → RowsFilled pattern words
    → PartFilled pattern n (take 328 p ++ (words ++ drop (length p - 328) (drop 328 p)))
part_filled pattern n p₀ p words e h room long l r = filled_part pattern n p words e h (long ∙ room) l r

-- with a graph it is sound
pub part_sound : (graph pattern : List ℕ) (n : ℕ) (p : List ℕ) → Lawful graph → pattern_fault pattern ≡ none → PartFilled pattern n p → Sound graph p
part_sound graph pattern n p g e f = record { lawful = g; tabled = f.tabled; accepted = ap pattern_fault f.is ∙ e }
