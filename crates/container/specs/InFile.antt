-- The grammar of files: which whole trees a whole file spells.
use Rattle.std.specs.Prelude.{◌≡◌, ℕ, ◌<◌, ◌≤◌, ◌^◌, Bool, true, List, ◌∷◌, Option, Some, None, length, ◌&&◌, IsTrue}
use Rattle.std.specs.List.{list_all, list_any, AllByRecursion, IsDistinct}
use Rattle.std.specs.Str.{is_utf8}
use Rattle.bast_schema.specs.declared.kind.Kind.TheVariants.{Script}
use Rattle.bast_schema.specs.declared.kind.FieldType.{FieldType}
use Rattle.bast_schema.specs.declared.kind.FieldType.TheVariants as field
use Rattle.bast_schema.specs.declared.kind.Union.TheVariants.{Body}
use Rattle.bast_schema.specs.Counts.{is_whole}
use Rattle.bast_schema.specs.Eager.{is_eager_at}
use Rattle.bast_schema.specs.Fields.{fields}
use Rattle.bast_schema.specs.Held.{Held}
use Rattle.bast_schema.specs.Kinds.{same_kind}
use Rattle.bast_schema.specs.Tree.{Tree, Datum, Data, branch, none, more, child, listed, kind_of, typed, depth}
use Rattle.string_table.specs.Entries.{AreDistinct, is_same}
use Rattle.container.specs.Atoms.{Atom, kind, text, atoms}
use Rattle.container.specs.Container.{container}
use Rattle.container.specs.Named.{named}
use Rattle.container.specs.Spelled.{spelled}
use Rattle.container.specs.Tables.{Tables}

-- whether no lazy kind stands inside the contents of a lazy kind
abbrev mutual
  pub is_unnested : Tree → Bool
  is_unnested (branch k ds) = are_unnested_fields (fields k) ds

  pub are_unnested_fields : List FieldType → Data → Bool
  are_unnested_fields (t ∷ ts) (more d ds) = is_unnested_at t d && are_unnested_fields ts ds
  are_unnested_fields _ _ = true

  pub is_unnested_at : FieldType → Datum → Bool
  is_unnested_at (field.Lazy u) d = is_eager_at d
  is_unnested_at t (child c) = is_unnested c
  is_unnested_at t (listed ds) = are_unnested ds
  is_unnested_at t _ = true

  pub are_unnested : Data → Bool
  are_unnested none = true
  are_unnested (more d ds) = is_unnested_at (field.Optional Body) d && are_unnested ds

-- whether each kind and each text of the tree stands in the tables
abbrev pub has_atom : Tables → Atom → Bool
has_atom s (kind k) = list_any (λ j. same_kind j k) s.kinds
has_atom s (text entry) = list_any (is_same entry) s.texts
has_atom s _ = true

abbrev pub IsEntry : Option (List ℕ) → Type 0
IsEntry (Some bytes) = IsTrue (is_utf8 bytes)
IsEntry None = Unit {0}

-- The file b spells the tree t, whose names stand for the texts of h.
pub record InFile (b : List ℕ) (h : Held) (t : Tree) : Type 0 where
  pub tables : Tables
  pub distinct_kinds : IsDistinct same_kind tables.kinds
  pub distinct_texts : AreDistinct tables.texts
  pub entries : AllByRecursion IsEntry tables.texts
  pub has_all : IsTrue (list_all (has_atom tables) (atoms h t))
  pub named : IsTrue (named h t)
  pub spelling : b ≡ container tables (spelled tables h t)
  -- so that each length and count in it is spelled
  pub small : length b < 2 ^ 32
  pub script : kind_of t ≡ Script
  pub typed_whole : IsTrue (typed t && is_whole t && is_unnested t)
  pub shallow : depth t ≤ 512
