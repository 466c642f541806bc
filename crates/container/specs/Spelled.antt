-- The bytes that spell a tree over two tables: one of kinds, one of texts.
use Rattle.std.specs.Prelude.{ℕ, List, [], ◌∷◌, ◌++◌, length, None, if◌then◌else◌}
use Rattle.std.specs.Int.{w64, to_be_bytes}
use Rattle.var_numbers.specs.Varnum.{varnum}
use Rattle.var_numbers.specs.Pattern.{pattern}
use Rattle.bast_schema.specs.declared.kind.Kind.TheVariants.{Null}
use Rattle.bast_schema.specs.declared.kind.FieldType.{FieldType}
use Rattle.bast_schema.specs.declared.kind.FieldType.TheVariants as field
use Rattle.bast_schema.specs.declared.kind.Union.TheVariants.{Body}
use Rattle.bast_schema.specs.Fields.{fields}
use Rattle.bast_schema.specs.Held.{Held, text_of, bytes_of}
use Rattle.bast_schema.specs.Tree.{Tree, Datum, Data, branch, none, more, child, absent, listed, flag, index, whole, name, no_name, choice, window, count}
use Rattle.container.specs.Atoms.{chosen}
use Rattle.container.specs.Tables.{Tables, kind_place, text_place}

-- a lazy field is spelled as a window: its length, and its bytes
abbrev pub framed : FieldType → List ℕ → List ℕ
framed (field.Lazy u) bytes = varnum (length bytes) ++ bytes
framed _ bytes = bytes

abbrev mutual
  pub spelled : Tables → Held → Tree → List ℕ
  spelled s h (branch k ds) = varnum (kind_place s k) ++ spelled_fields s h (fields k) ds

  pub spelled_fields : Tables → Held → List FieldType → Data → List ℕ
  spelled_fields s h (t ∷ ts) (more d ds) = framed t (spelled_at s h t d) ++ spelled_fields s h ts ds
  spelled_fields s h _ _ = []

  -- the bytes of a value, but for the frame of a window
  pub spelled_at : Tables → Held → FieldType → Datum → List ℕ
  spelled_at s h t (child c) = spelled s h c
  spelled_at s h t absent = varnum (kind_place s Null)
  spelled_at s h t (listed ds) = varnum (count ds) ++ spelled_items s h ds
  spelled_at s h t (flag b) = (if b then 1 else 0) ∷ []
  spelled_at s h t (index n) = varnum n
  spelled_at s h t (whole n) = to_be_bytes w64 (pattern n)
  spelled_at s h t (name n) = varnum (text_place s (text_of h n))
  spelled_at s h t no_name = varnum (text_place s None)
  spelled_at s h t (choice n) = varnum (text_place s (chosen t n))
  spelled_at s h t (window from to) = bytes_of h from to

  pub spelled_items : Tables → Held → Data → List ℕ
  spelled_items s h none = []
  spelled_items s h (more d ds) = spelled_at s h (field.Optional Body) d ++ spelled_items s h ds
