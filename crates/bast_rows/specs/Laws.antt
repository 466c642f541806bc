-- What holds of the rows of every tree.
use Rattle.std.specs.Prelude.{◌≡◌, true, length}
use Rattle.bast_schema.specs.Counts.{size}
use Rattle.bast_schema.specs.Tree.{Tree, typed}
use Rattle.bast_rows.specs.RowsOf.{rows_of}

abbrev pub RowsAreOfOneTree : Type 0
RowsAreOfOneTree = (t u : Tree) → typed t ≡ true → typed u ≡ true → rows_of t ≡ rows_of u → t ≡ u

abbrev pub EachValueHasARow : Type 0
EachValueHasARow = (t : Tree) → length (rows_of t) ≡ size t
