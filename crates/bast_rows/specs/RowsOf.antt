-- The rows of a tree, in preorder, and the tree that rows stand for.
use Rattle.std.specs.Prelude.{ℕ, zero, suc, List, [], ◌∷◌, ◌++◌, ◌+◌, ◌≡◌, length, drop, IsTrue, ◌≤◌, ◌<◌, ◌^◌}
use Rattle.bast_schema.specs.declared.kind.Kind.TheVariants.{Null}
use Rattle.bast_schema.specs.Fields.{fields}
use Rattle.bast_schema.specs.Tree.{Tree, branch, Datum, child, absent, listed, flag, index, whole, name, no_name, choice, window, Data, none, more, count, typed, depth}
use Rattle.bast_schema.specs.Counts.{size_in}
use Rattle.bast_rows.specs.Made.{all_made}
use Rattle.bast_rows.specs.declared.row.Row.{Row}
use Rattle.bast_rows.specs.declared.row.Row.TheVariants as row

-- one row for each value
abbrev mutual
  pub rows_of : Tree → List Row
  rows_of (branch k ds) = row.Node k (1 + size_in ds) ∷ rows_in ds

  pub rows_at : Datum → List Row
  rows_at (child t) = rows_of t
  rows_at absent = row.Absent ∷ []
  rows_at (listed ds) = row.List (count ds) (1 + size_in ds) ∷ rows_in ds
  rows_at (flag b) = row.Bool b ∷ []
  rows_at (index n) = row.Index n ∷ []
  rows_at (whole n) = row.Whole n ∷ []
  rows_at (name n) = row.Name (record { 0 = n }) ∷ []
  rows_at no_name = row.NoName ∷ []
  rows_at (choice n) = row.Choice n ∷ []
  rows_at (window from to) = row.Window from to ∷ []

  pub rows_in : Data → List Row
  rows_in none = []
  rows_in (more d ds) = rows_at d ++ rows_in ds

-- the first so many of values
abbrev pub first : ℕ → List Datum → Data
first zero s = none
first (suc n) [] = none
first (suc n) (d ∷ s) = more d (first n s)

abbrev pub all_of : List Datum → Data
all_of [] = none
all_of (d ∷ s) = more d (all_of s)

-- a row before the values that stand after it: it takes its own from their front
abbrev pub put : Row → List Datum → List Datum
put (row.Node k n) s = child (branch k (first (length (fields k)) s)) ∷ drop (length (fields k)) s
put row.Absent s = absent ∷ s
put (row.List c n) s = listed (first c s) ∷ drop c s
put (row.Bool b) s = flag b ∷ s
put (row.Index n) s = index n ∷ s
put (row.Whole n) s = whole n ∷ s
put (row.Name n) s = name n.0 ∷ s
put row.NoName s = no_name ∷ s
put (row.Choice n) s = choice n ∷ s
put (row.Window from to) s = window from to ∷ s

-- the values that stand from the first row on, one after the other, each whole
abbrev pub values : List Row → List Datum
values [] = []
values (r ∷ rs) = put r (values rs)

abbrev pub tree_of_value : Datum → Tree
tree_of_value (child t) = t
tree_of_value _ = branch Null none

abbrev pub tree_of_values : List Datum → Tree
tree_of_values [] = branch Null none
tree_of_values (d ∷ s) = tree_of_value d

-- the tree that rows stand for
abbrev pub tree_from : List Row → Tree
tree_from rs = tree_of_values (values rs)

-- the values of rows, as data
abbrev pub data_from : List Row → Data
data_from rs = all_of (values rs)

-- the rows are those of one well-typed tree at most 512 deep
pub record AreOf (rs : List Row) (t : Tree) : Type 0 where
  pub rows : rs ≡ rows_of t
  pub typed : IsTrue (typed t)
  pub depth : depth t ≤ 512

-- the rows are those of values with well-typed nodes, one after the other
pub record AreSiblings (rs : List Row) : Type 0 where
  pub rows : rs ≡ rows_in (data_from rs)
  pub made : IsTrue (all_made (data_from rs))
  pub few : length rs < 2 ^ 32

-- what is true of all rows of trees
pub record AreRows (rs : List Row) : Type 0 where
  pub are : AreOf rs (tree_from rs)
  pub few : length rs < 2 ^ 32
