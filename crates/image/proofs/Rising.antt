-- The pairs of the label rows and of the property rows of an accepted image rise.
use mathlib.Core.Path.{◌≡◌, refl}
use mathlib.Core.List.{List}
use mathlib.Core.Bool.{Bool, true, false, not, ◌&&◌}
use mathlib.Core.Option.{none}
use mathlib.Core.Logic.{◌≢◌}
use Prim.Native.Nat.{ℕ, zero, suc, ◌+◌, ◌<◌}
use native.Mathlib.Omega.{arith}
use lib.Dec.{eqb, ltb}
use borrow.Author.Tests.{eqb-true, eqb-false}
use Rattle.meaning.specs.Image.{node_count, edge_count, label_count, property_count, label_cell_lem, property_cell_lem, pair_less_lem, rises, bad_label_lem, bad_property_lem, image_fault}
use Rattle.meaning.proofs.Logic.{and_r, not_false}
use Rattle.image.specs.declared.lowest.Section.TheVariants.{Labels, Properties}
use Rattle.image.proofs.Order.{less_trans}
use Rattle.image.proofs.Sound.{sound_row}

-- rows that rise by one step rise by any number of steps
module _ (f g : ℕ → ℕ) (n : ℕ) (step : (i : ℕ) → suc i < n → pair_less_lem (f i) (g i) (f (suc i)) (g (suc i)) ≡ true) where
  rising : (i j : ℕ) → i < j → j < n → pair_less_lem (f i) (g i) (f j) (g j) ≡ true
  rising i zero h k = absurd (omega arith)
  rising i (suc j) h k = go (eqb i j) refl (rising i j)
    where
      go : (c : Bool) → eqb i j ≡ c → (i < j → j < n → pair_less_lem (f i) (g i) (f j) (g j) ≡ true) → pair_less_lem (f i) (g i) (f (suc j)) (g (suc j)) ≡ true
      go true e ih = rw (eqb-true i j e) (step j k)
      go false e ih =
          let z : i ≢ j = eqb-false i j e in
          less_trans (f i) (g i) (f j) (g j) (f (suc j)) (g (suc j)) (ih (omega arith) (omega arith)) (step j k)

module _ (image : List ℕ) (i : ℕ) where
  label_step : bad_label_lem image (suc i) ≡ false → pair_less_lem (label_cell_lem image i 0) (label_cell_lem image i 1) (label_cell_lem image (suc i) 0) (label_cell_lem image (suc i) 1) ≡ true
  unfolding bad_label_lem rises
  label_step h =
      let p : Bool = ltb (label_cell_lem image (suc i) 0) (node_count image + edge_count image) && not (eqb (label_cell_lem image (suc i) 1) 0) in
      let q : Bool = pair_less_lem (label_cell_lem image i 0) (label_cell_lem image i 1) (label_cell_lem image (suc i) 0) (label_cell_lem image (suc i) 1) in
      and_r p q (not_false (p && q) h)

  property_step : bad_property_lem image (suc i) ≡ false → pair_less_lem (property_cell_lem image i 0) (property_cell_lem image i 1) (property_cell_lem image (suc i) 0) (property_cell_lem image (suc i) 1) ≡ true
  unfolding bad_property_lem rises
  property_step h =
      let p : Bool = ltb (property_cell_lem image (suc i) 0) (node_count image + edge_count image) in
      let q : Bool = pair_less_lem (property_cell_lem image i 0) (property_cell_lem image i 1) (property_cell_lem image (suc i) 0) (property_cell_lem image (suc i) 1) in
      and_r p q (not_false (p && q) h)

module _ (image : List ℕ) (e : image_fault image ≡ none) where
  pub labels_rise : (i j : ℕ) → i < j → j < label_count image → pair_less_lem (label_cell_lem image i 0) (label_cell_lem image i 1) (label_cell_lem image j 0) (label_cell_lem image j 1) ≡ true
  labels_rise = rising (λ i. label_cell_lem image i 0) (λ i. label_cell_lem image i 1) (label_count image) (λ i h. label_step image i (sound_row image e Labels (suc i) h))

  pub properties_rise : (i j : ℕ) → i < j → j < property_count image → pair_less_lem (property_cell_lem image i 0) (property_cell_lem image i 1) (property_cell_lem image j 0) (property_cell_lem image j 1) ≡ true
  properties_rise = rising (λ i. property_cell_lem image i 0) (λ i. property_cell_lem image i 1) (property_count image) (λ i h. property_step image i (sound_row image e Properties (suc i) h))
