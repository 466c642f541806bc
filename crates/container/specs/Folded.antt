-- Whether the contents of each lazy kind are a window.
use Rattle.std.specs.Prelude.{Bool, true, false, ◌&&◌, List, ◌∷◌}
use Rattle.bast_schema.specs.declared.kind.FieldType.{FieldType}
use Rattle.bast_schema.specs.declared.kind.FieldType.TheVariants as field
use Rattle.bast_schema.specs.Fields.{fields}
use Rattle.bast_schema.specs.Tree.{Tree, branch, Datum, child, listed, Data, none, more}

-- whether a value is no node in a lazy field
abbrev pub is_folded : FieldType → Datum → Bool
is_folded (field.Lazy u) (child t) = false
is_folded _ _ = true

-- whether no lazy field of the tree holds a node
abbrev mutual
  pub folded : Tree → Bool
  folded (branch k ds) = folded_fields (fields k) ds

  pub folded_at : Datum → Bool
  folded_at (child t) = folded t
  folded_at (listed ds) = folded_items ds
  folded_at _ = true

  pub folded_fields : List FieldType → Data → Bool
  folded_fields (t ∷ ts) (more d ds) = is_folded t d && (folded_at d && folded_fields ts ds)
  folded_fields _ _ = true

  pub folded_items : Data → Bool
  folded_items none = true
  folded_items (more d ds) = folded_at d && folded_items ds
