-- A row as the code reads it, and the sort of a kind.
use Rattle.std.specs.Prelude.{◌≡◌, List, Bool, ◌&&◌, ℕ, ◌<◌, leb, get_or, if◌then◌else◌}
use Rattle.meaning.specs.Table.{rows_of, no_row}
use Rattle.meaning.specs.Table.{Row as RowOf}
use Rattle.rows.specs.declared.row.Row.{Row}
use Rattle.rows.specs.declared.row.Sort.{Sort}
use Rattle.rows.specs.declared.row.Sort.TheVariants.{Pattern, Condition, Unknown}

-- the row that the five numbers are
abbrev pub row_of : Row → RowOf
row_of r = record { kind = r.kind; p = r.p; q = r.q; r = r.r; s = r.s }

-- r is row i of the table of these words
pub record Reads (pattern : List ℕ) (i : ℕ) (r : Row) : Type 0 where
  pub is : get_or (rows_of pattern) i no_row ≡ row_of r
  pub kind_fits : r.kind < 65536
  pub p_fits : r.p < 65536
  pub q_fits : r.q < 65536
  pub r_fits : r.r < 65536
  pub s_fits : r.s < 65536

unfoldable pub pattern_kind_lem : ℕ → Bool
pattern_kind_lem k = leb 1 k && leb k 8

unfoldable pub condition_kind_lem : ℕ → Bool
condition_kind_lem k = leb 16 k && leb k 20

unfoldable pub sort_of_lem : ℕ → Sort
sort_of_lem k = if pattern_kind_lem k then Pattern else if condition_kind_lem k then Condition else Unknown
