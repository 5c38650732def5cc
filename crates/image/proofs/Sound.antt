-- No row of an accepted image has a fault.
use mathlib.Core.Path.{◌≡◌}
use mathlib.Core.List.{List}
use mathlib.Core.Bool.{false, not}
use mathlib.Core.Option.{none}
use Prim.Native.Nat.{ℕ, ◌<◌}
use native.Mathlib.Omega.{arith}
use lib.Dec.{ltb}
use lib.ListN.{length}
use Rattle.meaning.specs.Basics.{Cause, first_of, rowless, at_row, lowest}
use Rattle.meaning.specs.Image.{good_directory_lem, too_many, row_fault, image_fault}
use Rattle.meaning.proofs.Causes.{first_none, at_row_none, lowest_none}
use Rattle.image.specs.declared.lowest.Section.{Section}
use Rattle.image.specs.declared.lowest.Section.TheVariants.{Nodes, Edges, Labels, Properties}
use Rattle.image.specs.Faults.{row_count_lem, bad_row_lem}

module _ (image : List ℕ) where
  fault : ℕ → Section → Cause
  fault n x = at_row n (lowest (row_count_lem x image) 0 (bad_row_lem x image))

  fine : (n : ℕ) (x : Section) → fault n x ≡ none → (i : ℕ) → i < row_count_lem x image → bad_row_lem x image i ≡ false
  unfolding fault
  fine n x e i h = lowest_none (row_count_lem x image) 0 (bad_row_lem x image) (at_row_none n (lowest (row_count_lem x image) 0 (bad_row_lem x image)) e) i (omega arith) (omega arith)

  rows_sound : row_fault image ≡ none → (x : Section) (i : ℕ) → i < row_count_lem x image → bad_row_lem x image i ≡ false
  unfolding row_fault fault
  rows_sound e =
      let four = first_none (fault 4 Nodes) (first_of (fault 5 Edges) (first_of (fault 6 Labels) (fault 7 Properties))) e in
      let five = first_none (fault 5 Edges) (first_of (fault 6 Labels) (fault 7 Properties)) four.1 in
      let six = first_none (fault 6 Labels) (fault 7 Properties) five.1 in
      of four.0 five.0 six.0 six.1
    where
      of : fault 4 Nodes ≡ none → fault 5 Edges ≡ none → fault 6 Labels ≡ none → fault 7 Properties ≡ none → (x : Section) (i : ℕ) → i < row_count_lem x image → bad_row_lem x image i ≡ false
      of n e l p Nodes = fine 4 Nodes n
      of n e l p Edges = fine 5 Edges e
      of n e l p Labels = fine 6 Labels l
      of n e l p Properties = fine 7 Properties p

  pub sound_row : image_fault image ≡ none → (x : Section) (i : ℕ) → i < row_count_lem x image → bad_row_lem x image i ≡ false
  unfolding image_fault
  sound_row e =
      let one = first_none (rowless 1 (ltb (length image) 16)) (first_of (rowless 2 (not (good_directory_lem image))) (first_of (rowless 3 (too_many image)) (row_fault image))) e in
      let two = first_none (rowless 2 (not (good_directory_lem image))) (first_of (rowless 3 (too_many image)) (row_fault image)) one.1 in
      let three = first_none (rowless 3 (too_many image)) (row_fault image) two.1 in
      rows_sound three.1
