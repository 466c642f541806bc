-- What was read of a container is what it is made of.
use Rattle.std.specs.Prelude.{◌≡◌, ℕ, ◌-◌, ◌≤◌, List, length, slice_range}
use Rattle.std.specs.List.{AllByRecursion, IsDistinct}
use Rattle.bast_schema.specs.Kinds.{same_kind}
use Rattle.string_table.specs.Entries.{AreDistinct}
use Rattle.container.specs.declared.layout.Layout.{Layout}
use Rattle.container.specs.Container.{container}
use Rattle.container.specs.InFile.{IsEntry}
use Rattle.container.specs.Tables.{Tables}

-- the two tables of a layout
abbrev pub tables : Layout → Tables
tables l = record { kinds = l.kinds; texts = l.strings }

-- These bytes are the container of the two tables and of the tree's bytes. No entry stands twice, and each text is UTF-8.
pub record IsContainer (bytes : List ℕ) (l : Layout) : Type 0 where
  pub order : l.from ≤ l.to
  pub within : l.to ≤ length bytes
  pub spelling : bytes ≡ container (tables l) (slice_range bytes l.from l.to)
  pub distinct_kinds : IsDistinct same_kind l.kinds
  pub distinct_texts : AreDistinct l.strings
  pub entries : AllByRecursion IsEntry l.strings

-- These bytes are a container whose tables name no entry twice, with this as the tree's bytes.
pub record IsFileOf (s : Tables) (tree bytes : List ℕ) : Type 0 where
  pub distinct_kinds : IsDistinct same_kind s.kinds
  pub distinct_texts : AreDistinct s.texts
  pub entries : AllByRecursion IsEntry s.texts
  pub spelling : bytes ≡ container s tree

-- the layout of such a file, which ends with the tree's bytes
abbrev pub layout_in : Tables → List ℕ → List ℕ → Layout
layout_in s tree bytes = record { kinds = s.kinds; strings = s.texts; from = length bytes - length tree; to = length bytes }
