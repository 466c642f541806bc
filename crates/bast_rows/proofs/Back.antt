-- Rows give their tree back.
use Rattle.std.proofs.Common.{ℕ, suc, ◌+◌, ◌≡◌, true, List, [], ◌∷◌, ◌++◌, length, drop, refl, sym, ap, ◌∙◌, arith, append_assoc, append-nil}
use Rattle.std.proofs.lemmas.List.{length-append}
use Rattle.bast_schema.specs.declared.kind.Kind.{Kind}
use Rattle.bast_schema.specs.Counts.{size, size_at, size_in}
use Rattle.bast_schema.specs.Fields.{fields}
use Rattle.bast_schema.specs.Tree.{Tree, branch, Datum, child, listed, Data, none, more, count, typed}
use Rattle.bast_schema.proofs.Both.{and_first, and_second}
use Rattle.bast_schema.proofs.Lists.{count_fit}
use Rattle.bast_rows.specs.Made.{made_at, all_made}
use Rattle.bast_rows.specs.declared.row.Row.{Row}
use Rattle.bast_rows.specs.declared.row.Row.TheVariants as row
use Rattle.bast_rows.proofs.Typed.{made_fields}
use Rattle.bast_rows.specs.RowsOf.{rows_of, rows_at, rows_in, first, all_of, put, values, tree_from, tree_of_values, data_from}

-- one row for each value
mutual
  pub length_rows_of : (t : Tree) → length (rows_of t) ≡ size t
  length_rows_of (branch k ds) = ap suc (length_rows_in ds) ∙ omega arith

  pub length_rows_at : (d : Datum) → length (rows_at d) ≡ size_at d
  length_rows_at (child t) = length_rows_of t
  length_rows_at (listed ds) = ap suc (length_rows_in ds) ∙ omega arith
  length_rows_at _ = refl

  pub length_rows_in : (ds : Data) → length (rows_in ds) ≡ size_in ds
  length_rows_in none = refl
  length_rows_in (more d ds) = length-append (rows_at d) (rows_in ds) ∙ omega (arith, length_rows_at d, length_rows_in ds)

-- values as a list
abbrev pub list_of : Data → List Datum
list_of none = []
list_of (more d ds) = d ∷ list_of ds

pub all_of_list : (ds : Data) → all_of (list_of ds) ≡ ds
all_of_list none = refl
all_of_list (more d ds) = ap (more d) (all_of_list ds)

pub first_count : (ds : Data) (s : List Datum) → first (count ds) (list_of ds ++ s) ≡ ds
first_count none s = refl
first_count (more d ds) s = ap (more d) (first_count ds s)

pub drop_count : (ds : Data) (s : List Datum) → drop (count ds) (list_of ds ++ s) ≡ s
drop_count none s = refl
drop_count (more d ds) s = drop_count ds s

-- the values behind a row that takes so many
closed_node : (k : Kind) (n : ℕ) (ds : Data) (s : List Datum) → count ds ≡ length (fields k) → put (row.Node k n) (list_of ds ++ s) ≡ child (branch k ds) ∷ s
closed_node k n ds s e = rw (← e, first_count ds s, drop_count ds s) refl

closed_list : (n : ℕ) (ds : Data) (s : List Datum) → put (row.List (count ds) n) (list_of ds ++ s) ≡ listed ds ∷ s
closed_list n ds s = rw (first_count ds s, drop_count ds s) refl

mutual
  pub values_rows_of : (t : Tree) (rest : List Row) → typed t ≡ true → values (rows_of t ++ rest) ≡ child t ∷ values rest
  values_rows_of (branch k ds) rest h =
      ap (put (row.Node k (1 + size_in ds))) (values_rows_in ds rest (made_fields (fields k) ds h))
      ∙ closed_node k (1 + size_in ds) ds (values rest) (count_fit (fields k) ds h)

  pub values_rows_at : (d : Datum) (rest : List Row) → made_at d ≡ true → values (rows_at d ++ rest) ≡ d ∷ values rest
  values_rows_at (child t) rest h = values_rows_of t rest h
  values_rows_at (listed ds) rest h = ap (put (row.List (count ds) (1 + size_in ds))) (values_rows_in ds rest h) ∙ closed_list (1 + size_in ds) ds (values rest)
  values_rows_at _ rest h = refl

  pub values_rows_in : (ds : Data) (rest : List Row) → all_made ds ≡ true → values (rows_in ds ++ rest) ≡ list_of ds ++ values rest
  values_rows_in none rest h = refl
  values_rows_in (more d ds) rest h =
      ap values (append_assoc (rows_at d) (rows_in ds) rest)
      ∙ values_rows_at d (rows_in ds ++ rest) (and_first (made_at d) (all_made ds) h)
      ∙ ap (λ s. d ∷ s) (values_rows_in ds rest (and_second (made_at d) (all_made ds) h))

-- rows give their values back
pub data_from_rows_in : (ds : Data) → all_made ds ≡ true → data_from (rows_in ds) ≡ ds
data_from_rows_in ds h =
    ap (λ rs. all_of (values rs)) (sym (append-nil (rows_in ds)))
    ∙ ap all_of (values_rows_in ds [] h)
    ∙ ap all_of (append-nil (list_of ds))
    ∙ all_of_list ds

pub tree_from_rows_of : (t : Tree) → typed t ≡ true → tree_from (rows_of t) ≡ t
tree_from_rows_of t h =
    ap tree_from (sym (append-nil (rows_of t)))
    ∙ ap (λ s. tree_of_values s) (values_rows_of t [] h)
