-- The loop that looks for the lowest faulty row of a section: its invariant as a record, and the laws of its needs.
use mathlib.Core.Path.{◌≡◌, ◌∙◌}
use mathlib.Core.List.{List}
use mathlib.Core.Bool.{Bool, true, false}
use mathlib.Core.Option.{none, some}
use Prim.Native.Nat.{ℕ, ◌+◌, ◌<◌, ◌≤◌}
use Rattle.meaning.specs.Basics.{lowest}
use Rattle.words.proofs.Seek.{Seeking, seek_none, seek_more_by, seek_hit_by, seek_end_by}
use Rattle.image.specs.declared.sections.Sections.{Sections}
use Rattle.image.specs.declared.lowest.Section.{Section}
use Rattle.image.specs.declared.lowest.Section.TheVariants.{Nodes, Edges, Labels, Properties}
use Rattle.image.specs.Sections.{Laid}
use Rattle.image.specs.Faults.{rows_in, row_count_lem, bad_row_lem}

-- no row below i of the n rows is faulty
pub record Scanning (x : Section) (image : List ℕ) (n i : ℕ) : Type 0 where
  pub all : n ≡ row_count_lem x image
  pub few : n < 65536
  pub seeking : Seeking (bad_row_lem x image) n i

rows_counted : (image : List ℕ) (s : Sections) → Laid image s → (x : Section) → (rows_in s x ≡ row_count_lem x image) × (rows_in s x < 65536)
rows_counted image s l Nodes = (l.nodes, l.nodes_few)
rows_counted image s l Edges = (l.edges, l.edges_few)
rows_counted image s l Labels = (l.labels, l.labels_few)
rows_counted image s l Properties = (l.properties, l.properties_few)

pub scan_none : (x : Section) (image : List ℕ) (s : Sections) (n : ℕ) → Laid image s → n ≡ rows_in s x → Scanning x image n 0
scan_none x image s n l e =
    let c = rows_counted image s l x in
    record { all = e ∙ c.0; few = rw e c.1; seeking = seek_none (bad_row_lem x image) n }

-- c is what the test of row i answered
module _ (x : Section) (image : List ℕ) (n i : ℕ) (w : Scanning x image n i) where
  pub scan_more : (c : Bool) → i < n → c ≡ bad_row_lem x image i → c ≡ false → Scanning x image n (i + 1)
  scan_more c h d e = record { all = w.all; few = w.few; seeking = seek_more_by w.seeking c h d e }

  pub scan_hit : (c : Bool) → i < n → c ≡ bad_row_lem x image i → c ≡ true → some i ≡ lowest (row_count_lem x image) 0 (bad_row_lem x image)
  scan_hit c h d e = seek_hit_by w.seeking (row_count_lem x image) c w.all h d e

  pub scan_end : n ≤ i → none ≡ lowest (row_count_lem x image) 0 (bad_row_lem x image)
  scan_end h = seek_end_by w.seeking (row_count_lem x image) w.all h
