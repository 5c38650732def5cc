-- The first cause that holds, from what the parts of the reader answered.
use mathlib.Core.Path.{◌≡◌, ◌∙◌}
use mathlib.Core.List.{List}
use mathlib.Core.Bool.{Bool, true, false, not}
use mathlib.Core.Option.{none, some}
use Prim.Native.Nat.{ℕ, ◌<◌, ◌≤◌}
use lib.ListN.{length}
use borrow.Author.Tests.{lt-ltb, le-ltb}
use Rattle.meaning.specs.Basics.{Cause, first_of, rowless, at_row, lowest}
use Rattle.meaning.specs.Image.{node_count, edge_count, label_count, property_count, bad_node_lem, bad_edge_lem, bad_label_lem, bad_property_lem, good_directory_lem, row_fault, image_fault}
use Rattle.image.specs.declared.sections.Sections.{Sections}
use Rattle.image.specs.declared.lowest.Section.{Section}
use Rattle.image.specs.declared.reader.Refusal.{Refusal}
use Rattle.image.specs.Sections.{Laid, crowded}
use Rattle.image.specs.Faults.{row_count_lem, bad_row_lem, number_of_section}
use Rattle.image.specs.Verdict.{cause_of, told_of}
use Rattle.words.specs.Fault.{found_row}
use Rattle.std.specs.Prelude.{Option, Some, None, Result, Ok, Err, ⊤}
use Rattle.image.proofs.Listing.{crowded_is}

-- ------------------------------------------------------------------ rows
-- o is what was found of a section
module _ (image : List ℕ) (x : Section) (o : Option ℕ) (h : found_row o ≡ lowest (row_count_lem x image) 0 (bad_row_lem x image)) where
  pub section_bad : (i : ℕ) → o ≡ Some i → some (number_of_section x, i) ≡ at_row (number_of_section x) (lowest (row_count_lem x image) 0 (bad_row_lem x image))
  unfolding at_row
  section_bad i e = rw (← h, e)

  pub section_fine : o ≡ None → none ≡ at_row (number_of_section x) (lowest (row_count_lem x image) 0 (bad_row_lem x image))
  unfolding at_row
  section_fine e = rw (← h, e)

-- p, q and r are what was found of nodes, edges and labels
module _ (image : List ℕ) (p : Result ⊤ Refusal) (hp : cause_of p ≡ at_row 4 (lowest (node_count image) 0 (bad_node_lem image))) where
  pub nodes_refused : (e : Refusal) → p ≡ Err e → some (told_of e) ≡ row_fault image
  unfolding row_fault first_of
  nodes_refused e k = rw (← hp, k)

  module _ (kp : p ≡ Ok tt) (q : Result ⊤ Refusal) (hq : cause_of q ≡ at_row 5 (lowest (edge_count image) 0 (bad_edge_lem image))) where
    pub edges_refused : (e : Refusal) → q ≡ Err e → some (told_of e) ≡ row_fault image
    unfolding row_fault first_of
    edges_refused e k = rw (← hp, kp, ← hq, k)

    module _ (kq : q ≡ Ok tt) (r : Result ⊤ Refusal) (hr : cause_of r ≡ at_row 6 (lowest (label_count image) 0 (bad_label_lem image))) where
      pub labels_refused : (e : Refusal) → r ≡ Err e → some (told_of e) ≡ row_fault image
      unfolding row_fault first_of
      labels_refused e k = rw (← hp, kp, ← hq, kq, ← hr, k)

      pub by_properties : r ≡ Ok tt → (c : Cause) → c ≡ at_row 7 (lowest (property_count image) 0 (bad_property_lem image)) → c ≡ row_fault image
      unfolding row_fault first_of
      by_properties k c h = h ∙ rw (← hp, kp, ← hq, kq, ← hr, k)

-- ------------------------------------------------------------------ the whole image
module _ (image : List ℕ) where
  pub too_short : length image < 16 → some (1, 0) ≡ image_fault image
  unfolding image_fault first_of rowless
  too_short h = rw (lt-ltb (length image) 16 h)

  pub bad_directory : 16 ≤ length image → (d : Bool) → d ≡ good_directory_lem image → not d ≡ true → some (2, 0) ≡ image_fault image
  unfolding image_fault first_of rowless
  bad_directory h d e f = rw (le-ltb (length image) 16 h, ← e, f)

  pub too_many_rows : 16 ≤ length image → (d : Bool) → d ≡ good_directory_lem image → not d ≡ false → (s : Sections) → Laid image s → (m : Bool) → m ≡ crowded s → m ≡ true
      → some (3, 0) ≡ image_fault image
  unfolding image_fault first_of rowless
  too_many_rows h d e f s l m g t = rw (le-ltb (length image) 16 h, ← e, f, ← crowded_is image s l, ← g, t)

  pub by_rows : 16 ≤ length image → (d : Bool) → d ≡ good_directory_lem image → not d ≡ false → (s : Sections) → Laid image s → (m : Bool) → m ≡ crowded s → m ≡ false
      → (c : Cause) → c ≡ row_fault image → c ≡ image_fault image
  unfolding image_fault first_of rowless
  by_rows h d e f s l m g t c k = rw (le-ltb (length image) 16 h, ← e, f, ← crowded_is image s l, ← g, t) k
