-- Trees in which no kind has a lazy field.
use Rattle.std.specs.Prelude.{Bool, true, ◌&&◌, not}
use Rattle.bast_schema.specs.Fields.{has_lazy}
use Rattle.bast_schema.specs.Tree.{Tree, branch, Datum, child, listed, Data, none, more}

abbrev mutual
  pub is_eager : Tree → Bool
  is_eager (branch k ds) = not (has_lazy k) && are_eager ds

  pub is_eager_at : Datum → Bool
  is_eager_at (child t) = is_eager t
  is_eager_at (listed ds) = are_eager ds
  is_eager_at _ = true

  pub are_eager : Data → Bool
  are_eager none = true
  are_eager (more d ds) = is_eager_at d && are_eager ds
