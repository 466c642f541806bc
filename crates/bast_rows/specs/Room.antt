-- Rows that are not yet those of a tree, and how many more there is room for.
use Rattle.std.specs.Prelude.{ℕ, List, get_or}
use Rattle.std.specs.List.{slice_set}
use Rattle.bast_schema.specs.Tree.{Tree}
use Rattle.bast_rows.specs.declared.row.Row.{Row}
use Rattle.bast_rows.specs.declared.row.Row.TheVariants as row
use Rattle.bast_rows.specs.RowsOf.{AreOf}

pub record Space : Type 0 where
  pub rows : List Row
  pub spare : ℕ

-- the row with another number of rows
abbrev pub with_span : ℕ → Row → Row
with_span n (row.Node k m) = row.Node k n
with_span n (row.List c m) = row.List c n
with_span n r = r

-- rows, where the one at a place says another number
abbrev pub with_span_at : List Row → ℕ → ℕ → List Row
with_span_at rs at n = slice_set rs at (with_span n (get_or rs at row.Absent))

-- the rows are those of some tree
pub record AreWhole (rs : List Row) : Type 0 where
  pub tree : Tree
  pub are : AreOf rs tree
